-- What the program loads and how an audit ends: what private functions alone cite.
use Rattle.frame.specs.Outcome.{IsDone, IsHalted, Rule}
use Rattle.frame.specs.{Outsides.LeavesFiles, declared.outside.Outside.Outside}
use Rattle.frame.specs.declared.outside.Outside.TheVariants as outside
use Rattle.ledger_check.specs.{Balances.AreValidFields, Balances.IsBalance, Positions.HasUploads}
use Rattle.omny_audit.specs.{Ends.status_of, Options.AuditRequest, Program.taps_in}
use Rattle.omny_audit.specs.declared.fault.Fault.{Fault}
use Rattle.omny_audit.specs.declared.fault.Fault.TheVariants.{Class, File, GivenLedger, Ledger}
use Rattle.omny_audit.specs.declared.fault.Fault.TheVariants.{NoMemory, NotMade, Tables, Unwritten}
use Rattle.omny_audit.specs.declared.{options.Options.Options, program.Uploads.Uploads}
use Rattle.program_manners.specs.{TableViews.names_of, TablesFaults.outside_of as of_tables}
use Rattle.std.specs.{List.AllZip, Prelude.map, Prelude.option_map}
use Rattle.std.specs.Prelude.{ℕ, Bool, List, [], Some, Result, Ok, Err}
use Rattle.tap_views.specs.{UploadEnds.ArePlainEnds, declared.encoder.TapFields.TapFields}
use Rattle.world.specs.{Origins.with_loads, Run.Load, Run.Run}

-- what the options ask for
abbrev pub audit_request_of : Options → AuditRequest
audit_request_of options = record {
  table = names_of options.table;
  all = options.all;
  live = options.live;
  uploads = map (λ f. f.now) options.uploads.items;
  report = option_map (λ f. f.now) options.report;
  ledger = option_map (λ f. f.now) options.ledger;
}

-- these are the valid taps of each of these files, and their ends
pub record AreUploads (files : List (List ℕ)) (lists : List (List TapFields)) (uploads : Uploads)
    : Type 0 where
  pub are_lists : AllZip AreValidFields files lists
  pub balance : IsBalance uploads.balance (taps_in lists) []
  pub positions : HasUploads uploads.positions lists
  pub ends : ArePlainEnds files uploads.ends.items

-- what stops a run that fails so
abbrev pub outside_of : Fault → Outside
outside_of (File file) = outside.Unread file.fault
outside_of (Ledger why) = outside.Unread why
outside_of (Tables fault) = of_tables fault
outside_of (GivenLedger name) = outside.Wrong
outside_of (Class file is_alone) = outside.Wrong
outside_of (NotMade name) = outside.Wrong
outside_of (Unwritten why) = outside.Unwritten why
outside_of NoMemory = outside.NoMemory

-- After some loads this stopped the run: of these names a file was refused, or what was loaded is wrong.
pub record StopsLoads (wrong : List Load → Type 0) (names : List (List ℕ)) (old new : Run)
    (fault : Fault) : Type 0 where
  pub loads : List Load
  pub leaves : LeavesFiles (wrong loads) (map Some names) (outside_of fault) (with_loads old loads)
      new

-- it left every run as it was: an allocation failed, or what is said of a wrong file is true
abbrev pub StopsAtOnce : Type 0 → Fault → Type 0
StopsAtOnce truth fault = (run : Run) → LeavesFiles truth [] (outside_of fault) run run

-- how an audit ends: all was done, with the status of what it found, or it was stopped
abbrev pub EndsBy : Rule → Run → Run → Result Bool Fault → Type 0
EndsBy rule old new (Ok success) = IsDone rule old new (status_of success)
EndsBy rule old new (Err fault) = IsHalted rule old new (outside_of fault)
