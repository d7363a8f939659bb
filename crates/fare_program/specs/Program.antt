-- What a run of the program does.
use Rattle.class_names.specs.Classes.{AreTrees, class_of_token, tree_at}
use Rattle.fare_program.specs.FilesLoaded.{AreLoaded, names_to_load}
use Rattle.frame.specs.Given.{LoadsFiles}
use Rattle.fare_program.specs.{Options.Request, Options.form_of, Parts.ShowsSorted}
use Rattle.fare_program.specs.{Listing.IsListing, Settling.ShowsOver, Settling.ShowsSettled}
use Rattle.fare_service.specs.{Explained.IsExplainedOf, Headline.HasRun, Headline.drawn_by}
use Rattle.fare_service.specs.{Ledger.IsLedgerOfBooks, Outcomes.OutcomeView, Plain.AreApart}
use Rattle.fare_service.specs.Printed.{IsStatementOf, report_with}
use Rattle.fare_texts.specs.declared.form.Form.{Form}
use Rattle.hex.specs.Hex.{decode_sized}
use Rattle.histories.specs.{Plain.IsPlain, declared.entry.Entry.Entry}
use Rattle.program_manners.specs.{TableLoads.LoadsTables, TableWords.TableNames}
use Rattle.settled_bills.specs.Ledgers.{IsTracedLedger}
use Rattle.shared_books.specs.Drawing.{AllBelow, HasAll}
use Rattle.std.specs.Prelude.{◌≡◌, ◌++◌, ℕ, Bool, true, List, [], map, Option, None, Some, Ok}
use Rattle.std.specs.Prelude.{MatchBool, MatchOption, length}
use Rattle.tap_views.specs.{Token.bytes_of, UploadEnds.are_posted}
use Rattle.tap_views.specs.declared.{token.Token.Token, upload_end.UploadEnd.UploadEnd}
use Rattle.tariffs.specs.Fares.{Fares}
use Rattle.toml.specs.Data.{Members}
use Rattle.world.specs.{Origins.Origin, Run.Load}

-- These loads are those of the files, and the text is their listing, with the validators known that
-- the table knows. It is clean if no file has a layout fault.
pub record Lists (request : Request) (fares : Option Fares) (loads : List Load) (text : List ℕ)
    (clean : Bool) : Type 0 where
  pub files : List (List ℕ)
  pub loads_files : LoadsFiles (names_to_load request.files) loads files
  pub listing : IsListing fares files text clean

-- the text is the statement of this token, explained in this form if there is one
abbrev pub ShowsStatement : Option Form → Token → OutcomeView → List ℕ → Type 0
ShowsStatement None token outcome text = IsStatementOf outcome token text
ShowsStatement (Some form) token outcome text = IsExplainedOf form outcome.books token text

-- the text is the report with these ends of uploads, or the statement of this token, explained in
-- this form if there is one
abbrev pub ShowsWith : Option Form → Option Token → List UploadEnd → OutcomeView → List ℕ → Type 0
ShowsWith form None ends outcome text = text ≡ report_with ends outcome
ShowsWith form (Some token) ends outcome text = ShowsStatement form token outcome text

-- The text is what is asked for of an outcome, with these ends of uploads: the ledger of its books,
-- or that of this token; else the report, or the statement of this token, explained if that is
-- asked for.
abbrev pub ShowsOf : Request → Option Token → List UploadEnd → OutcomeView → List ℕ → Type 0
ShowsOf request token ends outcome text = MatchBool request.ledger
    (IsLedgerOfBooks outcome.books token text) (ShowsWith (form_of request) token ends outcome text)

-- If no token has taps in two of the files, the text is what is asked for of the plain history of
-- the files: the report, the statement of this token, explained if that is asked for, or the
-- ledger. That is a function of the files and the table: no schedule, no number of workers and no
-- number of shards has a part in it.
abbrev pub ShowsPlain : Request → Fares → List (List ℕ) → Option Token → List ℕ → Type 0
ShowsPlain request fares files token text =
    (history : List Entry) (is : IsPlain fares files history) → AreApart is.taps
    → ShowsOver request token fares files history text

-- the token that is asked for, if any, is that of these 32 hexadecimal digits
abbrev pub IsTokenIn : Option (List ℕ) → Option Token → Type 0
IsTokenIn None None = Unit {0}
IsTokenIn (Some digits) (Some token) = decode_sized digits 16 ≡ Ok (bytes_of token)
IsTokenIn _ _ = ⊥

-- A service was run over the files as they are, of which these were drawn, and the text is what is
-- asked for of its outcome. It is well if each upload was posted whole. Then each file was drawn once,
-- and the text is that of the plain history of the files, if no token has taps in two of them.
pub record ShowsLiveRun (request : Request) (fares : Fares) (files : List (List ℕ)) (drawn : List ℕ)
    (token : Option Token) (text : List ℕ) (success : Bool) : Type 0 where
  pub outcome : OutcomeView
  pub run : HasRun fares request.shards files request.workers outcome
  pub drawn_are : drawn ≡ drawn_by run.0
  pub shows : ShowsOf request token outcome.ends outcome text
  pub succeeded : success ≡ are_posted outcome.ends
  pub once : success ≡ true → HasAll (length files) drawn × AllBelow (length files) drawn
  pub plain : success ≡ true → ShowsPlain request fares files token text

-- The text is what is asked for of the files. Settled, it is a function of the files and the table:
-- no schedule and no number of workers has a part in it. Else these files were drawn.
abbrev pub ShowsRequest : Request → Fares → List (List ℕ) → List ℕ → Option Token → List ℕ → Bool
    → Type 0
ShowsRequest request fares files drawn token text success = MatchBool request.settle
    (ShowsSettled request fares files token text success)
    (ShowsLiveRun request fares files drawn token text success)

-- The files were loaded, and their taps posted. Where the bytes of a file come from that was read
-- ahead is given for its name. The text is the report, the statement of this token, or the ledger,
-- whichever is asked for.
pub record Charges (request : Request) (origin : List ℕ → Origin) (fares : Fares)
    (token : Option Token) (loads : List Load) (text : List ℕ) (success : Bool) : Type 0 where
  pub files : List (List ℕ)
  pub drawn : List ℕ
  pub loads_files : AreLoaded request origin loads files drawn
  pub shows : ShowsRequest request fares files drawn token text success

-- The named files were opened, each of which has its taps in canonical order. The text is what is
-- asked for of the settled history of the files, or of a part of it, if what stands under their names
-- is known. All is well.
abbrev pub Merges : Request → (List ℕ → Option (List ℕ)) → Fares → Option Token → List ℕ → Bool
    → Type 0
Merges request known fares token text success = (success ≡ true)
    × ((files : List (List ℕ)) → map known request.files ≡ map Some files
    → ShowsSorted request fares files token text true)

-- The files were loaded. The text is their traced ledger, with the class of each token that the
-- tables' texts name which is valid at the tap's moment.
pub record Traces (request : Request) (texts : List (List ℕ)) (fares : Fares) (loads : List Load)
    (text : List ℕ) (success : Bool) : Type 0 where
  pub tree : Members
  pub later : List (ℕ × Members)
  pub parsed : AreTrees fares texts tree later
  pub classes : ℕ → List ℕ → List ℕ
  pub are_classes : (moment : ℕ) (token : List ℕ)
      → class_of_token (tree_at tree later moment) token ≡ Some (classes moment token)
  pub files : List (List ℕ)
  pub loads_files : LoadsFiles (names_to_load request.files) loads files
  pub shows : IsTracedLedger classes fares files text success

-- The text is what is asked for by these tables, of files that were loaded, or of sorted files. What
-- stands under a name of a sorted file is given, if it is known.
abbrev pub DoesBy : Request → (List ℕ → Option (List ℕ)) → (List ℕ → Origin) → List (List ℕ) → Fares
    → Option Token → List Load → List ℕ → Bool → Type 0
DoesBy request known origin texts fares token loads text success =
    MatchBool request.list (Lists request (Some fares) loads text success)
    (MatchBool request.traced (Traces request texts fares loads text success)
    (MatchBool request.sorted ((loads ≡ []) × Merges request known fares token text success)
    (Charges request origin fares token loads text success)))

-- The files of these tables were loaded in order: the first table, and each later one from its date
-- on. Their texts mean these fares, and the text is what is asked for by them.
pub record DoesWith (request : Request) (known : List ℕ → Option (List ℕ)) (origin : List ℕ → Origin)
    (loads : List Load) (text : List ℕ) (success : Bool) (tables : TableNames) : Type 0 where
  pub texts : List (List ℕ)
  pub fares : Fares
  pub of_tables : List Load
  pub loads_tables : LoadsTables tables of_tables texts fares
  pub token : Option Token
  pub is_token : IsTokenIn request.token token
  pub of_files : List Load
  pub does : DoesBy request known origin texts fares token of_files text success
  pub all : loads ≡ of_tables ++ of_files

-- The text is what is asked for: of files alone, or by the tables that are named.
abbrev pub Does : Request → (List ℕ → Option (List ℕ)) → (List ℕ → Origin) → List Load → List ℕ → Bool
    → Type 0
Does request known origin loads text success = MatchOption request.table
    (Lists request None loads text success) (DoesWith request known origin loads text success)
