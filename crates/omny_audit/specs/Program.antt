-- What a run of the program finds.
use Rattle.clap.specs.Words.{Text}
use Rattle.class_names.specs.Classes.{AreTrees, class_of_token, tree_at}
use Rattle.frame.specs.Given.{LoadsFiles}
use Rattle.ledger_check.specs.{Balances.AreValidFields, Columns.has_traced_head}
use Rattle.omny_audit.specs.{Options.AuditRequest, Options.has_uploads, Reports.Given}
use Rattle.omny_audit.specs.{Reports.IsAudit, Reports.IsAuditText, Traced.Wanted}
use Rattle.program_manners.specs.TableLoads.{LoadsTables, load_of}
use Rattle.std.specs.{Bool.then_some, List.AllZip, List.flat_map, Prelude.◌≡◌}
use Rattle.std.specs.Prelude.{ℕ, Bool, true, false, List, [], ◌∷◌, ◌++◌, map, Option, None, Some}
use Rattle.tap_views.specs.UploadEnds.{ArePlainEnds}
use Rattle.tap_views.specs.declared.{encoder.TapFields.TapFields, upload_end.UploadEnd.UploadEnd}
use Rattle.tariffs.specs.Fares.{Fares}
use Rattle.toml.specs.Data.{Members}
use Rattle.world.specs.{Run.Calls, Run.Load, Streams.IsWhole}

-- the taps of uploads, one upload after another
abbrev pub taps_in : List (List TapFields) → List TapFields
taps_in lists = flat_map (λ list. list) lists

-- the load of a file, if it is named
abbrev pub LoadsReport : Option Text → List Load → Option (List ℕ) → Type 0
LoadsReport None loads report = (loads ≡ []) × (report ≡ None)
LoadsReport (Some name) loads report = (text : List ℕ)
    × (loads ≡ load_of name text ∷ []) × (report ≡ Some text)

-- This holds of what reads gave, whatever follows; nothing does if they came to the end.
abbrev pub HoldsOfRead : Calls → (List ℕ → Type 0) → Type 0
HoldsOfRead ledger P =
    (more : List ℕ) → (IsWhole ledger → more ≡ []) → P (ledger.reading.bytes ++ more)

-- If the ledger is traced, these are the classes that the texts of the tables name for tokens at
-- each moment, and these uploads.
abbrev pub AreWanted : Fares → List (List ℕ) → Bool → Option (List (List TapFields)) → Option Wanted
    → Type 0
AreWanted fares texts false uploads wanted = wanted ≡ None
AreWanted fares texts true uploads None = ⊥
AreWanted fares texts true uploads (Some wanted) =
    (tree : Members) × (later : List (ℕ × Members)) × AreTrees fares texts tree later
    × ((moment : ℕ) (token : List ℕ)
    → class_of_token (tree_at tree later moment) token ≡ Some (wanted.classes moment token))
    × (wanted.uploads ≡ uploads)

-- These are the loads of the tables, then of the uploads, and then of the report, if it is named.
-- These calls read the ledger.
pub record HasLoaded (request : AuditRequest) (loads : List Load) (ledger : Calls) : Type 0 where
  pub of_tables : List Load
  pub of_uploads : List Load
  pub of_report : List Load
  pub are : loads ≡ of_tables ++ (of_uploads ++ of_report)
  pub fares : Fares
  pub texts : List (List ℕ)
  pub loads_tables : LoadsTables request.table of_tables texts fares
  pub uploads : List (List ℕ)
  pub loads_uploads : LoadsFiles (map Some request.uploads) of_uploads uploads
  -- the fields of the valid taps of each upload
  pub lists : List (List TapFields)
  pub are_lists : AllZip AreValidFields uploads lists
  pub report : Option (List ℕ)
  pub loads_report : LoadsReport request.report of_report report
  pub ends : List UploadEnd
  pub are_ends : ArePlainEnds uploads ends
  pub reads_ledger : ledger.reading.name ≡ request.ledger
  -- a traced ledger's columns are compared with the classes that the tables' texts name, and
  -- with the places of the uploads' taps, if uploads are named
  pub traced : Bool
  pub is_traced : HoldsOfRead ledger (λ file. traced ≡ has_traced_head file)
  pub wanted : Option Wanted
  pub are_wanted : AreWanted fares texts traced (then_some (has_uploads request) lists) wanted

-- what the ledger is audited by, of these files
abbrev pub given_of : (request : AuditRequest) {loads : List Load} {ledger : Calls}
    → HasLoaded request loads ledger → Given
given_of request files = record {
  all = request.all;
  live = request.live;
  fares = files.fares;
  wanted = files.wanted;
  valid = then_some (has_uploads request) (taps_in files.lists);
  ends = then_some (has_uploads request) files.ends;
  report = files.report;
}

-- The files were loaded, and the text is what is found of the ledger beside the valid taps of the
-- uploads, if uploads are named, and of the report. It says that all is well, or not. A ledger that
-- is well was read to its end.
pub record HasFound (request : AuditRequest) (loads : List Load) (ledger : Calls) (text : List ℕ)
    (success : Bool) : Type 0 where
  pub files : HasLoaded request loads ledger
  pub found : HoldsOfRead ledger (λ file. IsAudit (given_of request files) file text success)
  pub whole : success ≡ true → IsWhole ledger

-- the files were loaded, and the text is one that an audit of them may leave
pub record IsTextOf (request : AuditRequest) (loads : List Load) (ledger : Calls) (text : List ℕ)
    : Type 0 where
  pub files : HasLoaded request loads ledger
  pub right : HoldsOfRead ledger (λ file. IsAuditText (given_of request files) file text)
