-- What an audit has read: what private functions alone cite.
use Rattle.omny_audit.specs.{Ends.LeavesOf, Program.HoldsOfRead, Reports.Given, Reports.IsAudit}
use Rattle.omny_audit.specs.{Reports.IsAuditText, declared.audit.Audit.Audit}
use Rattle.omny_audit.specs.declared.{fault.Fault.Fault, report.HeldReport.HeldReport}
use Rattle.omny_audit.specs.inside.{Checks.HasChecked, Checks.is_all, Program.outside_of}
use Rattle.omny_audit.specs.inside.Traced.{HasReadAs, wanted_by}
use Rattle.report_check.specs.{Reports.is_of_ledger, declared.verdict.ReportVerdict.ReportVerdict}
use Rattle.std.specs.{Bool.then_some, Prelude.◌≡◌, Prelude.◌⊎◌, Prelude.◌++◌, Prelude.option_map}
use Rattle.std.specs.Prelude.{ℕ, Bool, false, List, [], Option, None, Some, true, Result, Ok, Err}
use Rattle.tap_views.specs.declared.encoder.TapFields.{TapFields}
use Rattle.world.specs.Run.{Calls, Run, with_flushed, with_written}
use Rattle.world.specs.{Streams.IsWhole, declared.stream.Stream.Stream}

-- the text of the report, if there is one
abbrev pub text_of : Option HeldReport → Option (List ℕ)
text_of report = option_map (λ r. r.text.items) report

-- whether the verdict is that the report is the ledger's, if there is a report
abbrev pub fits : Option (List ℕ) → Option ReportVerdict → Bool
fits None verdict = true
fits (Some report) None = false
fits (Some report) (Some verdict) = is_of_ledger verdict

-- what the ledger is audited by, if these are the valid taps of the uploads
abbrev pub given_in : Audit → List TapFields → Given
given_in audit valid = record {
  all = is_all audit.check;
  live = audit.live;
  fares = audit.table.now;
  wanted = wanted_by audit.trace;
  valid = then_some audit.subtracts valid;
  ends = option_map (λ e. e.now) audit.ends;
  report = text_of audit.report;
}

-- The file was read so far, or whole, as this text, which was checked, and this was reported of it.
pub record HasAudited (given : Given) (audit : Audit) (whole : Bool) (file written : List ℕ)
    : Type 0 where
  pub valid : List TapFields
  pub same : given_in audit valid ≡ given
  pub clock : audit.clock.now ≡ audit.table.now.zone
  pub text : List ℕ
  pub as_text : HasReadAs audit.trace whole file text
  pub checked : HasChecked audit.table.now audit.subtracts valid audit.check text written

-- This is what is found of the ledger, however it goes on after what reads gave. It was read to its
-- end if it is well.
abbrev pub IsFound : Given → Calls → List ℕ → Bool → Type 0
IsFound given ledger text success =
    HoldsOfRead ledger (λ file. IsAudit given file text success)
    × (success ≡ true → IsWhole ledger)

-- This was reported of what reads gave of the ledger. The audit goes on, or all is found.
abbrev pub HoldsNow : Given → Audit → Calls → List ℕ → Option Bool → Type 0
HoldsNow given audit ledger written None = HasAudited given audit false ledger.reading.bytes written
HoldsNow given audit ledger written (Some success) = IsFound given ledger written success

-- the audit of a piece reports this text
pub record Steps (before after : Audit) (piece text : List ℕ) (ended : Option Bool) : Type 0 where
  pub holds : (given : Given) (file written : List ℕ) (ledger : Calls)
      → HasAudited given before false file written → ledger.reading.bytes ≡ file ++ piece
      → (piece ≡ [] → IsWhole ledger) → HoldsNow given after ledger (written ++ text) ended

-- A prefix of what may be found of the ledger was written, and then the run failed.
pub record IsCutOff (given : Given) (ledger : Calls) (old new : Run) (fault : Fault) : Type 0 where
  pub front : List ℕ
  pub rest : List ℕ
  pub right : (front ≡ [])
      ⊎ HoldsOfRead ledger (λ file. IsAuditText given file (front ++ rest))
  pub leaves : LeavesOf ⊥ [] ledger.reading.name ledger (outside_of fault) (with_written old front) new

-- What is found of the ledger was written and flushed; or the run failed before.
abbrev pub EndsAs : Given → Calls → Run → Run → Result Bool Fault → Type 0
EndsAs given ledger old new (Ok success) = (text : List ℕ) × IsFound given ledger text success
    × (new ≡ with_flushed (with_written old text))
EndsAs given ledger old new (Err fault) = IsCutOff given ledger old new fault

-- The reads of the ledger, whose head was read before, went on, unless they came to its end.
pub record GoesOn (before after : Stream) (head : List ℕ) : Type 0 where
  pub name : after.trace.reading.name ≡ before.trace.reading.name
  pub rest : List ℕ
  pub begins : after.trace.reading.bytes ≡ head ++ rest
  pub ended : before.from ≡ None → after ≡ before
