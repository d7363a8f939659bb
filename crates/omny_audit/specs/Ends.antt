-- How a run of the program ends.
use Rattle.clap.specs.Words.{Text, fault_of}
use Rattle.class_names.specs.{ClassFaults.IsWrongAt, declared.names.WrongNames.WrongNames}
use Rattle.frame.specs.{Given.Given, Outcome.Ends, Outcome.Rule, Outsides.LeavesFiles}
use Rattle.frame.specs.declared.outside.Outside.{Outside, TheVariants.Unread}
use Rattle.ledger_check.specs.Columns.{has_ledger_head}
use Rattle.omny_audit.specs.Options.{AuditRequest, audit_program, audit_request_by, files_of}
use Rattle.omny_audit.specs.Program.{HasFound, IsTextOf}
use Rattle.program_manners.specs.Answers.{IsPrinted, IsRejected}
use Rattle.program_manners.specs.{TableLoads.LoadsTables, TableLoads.load_of, TableWords.TableNames}
use Rattle.program_manners.specs.{TableWords.wrong_word, TablesFaults.RefusesTable, Words.AsksForText}
use Rattle.std.specs.Prelude.{◌≡◌, ◌⊎◌, ℕ, Bool, true, false, List, [], ◌∷◌, ◌++◌, Option, None}
use Rattle.std.specs.Prelude.{Contains}
use Rattle.tariffs.specs.Fares.{Fares}
use Rattle.world.specs.{Loads.IsRefused, Run.Calls, Run.Load, Run.Run, Run.no_calls}
use Rattle.class_names.specs.declared.names.ClassFault.TheVariants as class

-- one of the texts names a class that no ledger can have
abbrev pub NamesUnplainClass : List (List ℕ) → Type 0
NamesUnplainClass texts = (wrong : WrongNames) × IsWrongAt texts wrong × (wrong.fault ≡ class.Name)

-- the tables were loaded first, and one of their texts does
pub record LoadsUnplainClass (tables : TableNames) (loads : List Load) : Type 0 where
  pub texts : List (List ℕ)
  pub fares : Fares
  pub first : List Load
  pub rest : List Load
  pub split : loads ≡ first ++ rest
  pub are : LoadsTables tables first texts fares
  pub names : NamesUnplainClass texts

-- the file of one of these names was loaded last, and is a ledger by its head line
pub record LoadsGivenLedger (names : List Text) (loads : List Load) : Type 0 where
  pub name : Text
  pub among : Contains names name
  pub before : List Load
  pub text : List ℕ
  pub is_last : loads ≡ before ++ load_of name text ∷ []
  pub begins : has_ledger_head text ≡ true

-- of what was loaded a table is wrong, an upload is a ledger, or tables name a class that no ledger has
abbrev pub IsWrong : AuditRequest → List Load → Type 0
IsWrong request loads = RefusesTable request.table loads
    ⊎ (LoadsGivenLedger request.uploads loads ⊎ LoadsUnplainClass request.table loads)

-- the calls of the ledger, which has this name, end with that it was refused
abbrev pub IsUnread : Option Text → Calls → Outside → Type 0
IsUnread name ledger (Unread why) = (before : Run) × IsRefused before ledger.run name why
IsUnread name ledger _ = ⊥

-- What stopped a run leaves this of it, if this is true of a file that is wrong.
abbrev pub LeavesOf : Type 0 → List (Option Text) → Option Text → Calls → Outside → Run → Run
    → Type 0
LeavesOf truth names name ledger why before after =
    LeavesFiles truth names why before after ⊎ (IsUnread name ledger why × (after ≡ before))

-- these files were loaded, and this was written
abbrev pub found_of : List Load → List ℕ → Given
found_of loads text = record { loads = loads; text = text; note = []; files = [] }

-- the status of an audit that finds that all is well, or not
abbrev pub status_of : Bool → ℕ
status_of true = 0
status_of false = 1

-- THE rule of an audit, whose ledger is read by these calls: what is found is right. When something
-- stops the run, a prefix of a right text was written, after the files were loaded, or nothing was.
abbrev pub audit_rule : AuditRequest → Calls → Rule
audit_rule request ledger = record {
  Right = λ given status. (given ≡ found_of given.loads given.text) × (success : Bool)
      × HasFound request given.loads ledger given.text success × (status ≡ status_of success);
  Partial = λ part. (part ≡ found_of part.loads part.text) × ((part.text ≡ [])
      ⊎ ((rest : List ℕ) × IsTextOf request part.loads ledger (part.text ++ rest)));
  Leaves = λ part.
      LeavesOf (IsWrong request part.loads) (files_of request) request.ledger ledger;
}

-- the words are a command line, in which each fare table but the first has a date
abbrev pub IsCommand : List Text → Type 0
IsCommand words = (fault_of audit_program words ≡ [])
    × (wrong_word (audit_request_by words).table ≡ None)

-- THE outcome of a run of these words, whose ledger is read by these calls.
pub record EndsAudit (words : List Text) (ledger : Calls) (old new : Run) (status : ℕ)
    : Type 0 where
  pub command : IsCommand words
      → Ends (audit_rule (audit_request_by words) ledger) old new status
  pub helped : ¬ IsCommand words → status ≡ 0 → AsksForText audit_program words × IsPrinted old new
  pub rejected : ¬ IsCommand words → (¬ AsksForText audit_program words) → IsRejected old new status
  pub unread : ¬ IsCommand words → ledger ≡ no_calls
