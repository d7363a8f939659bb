-- What is found of a ledger and of the report that is held beside it.
use Rattle.histories.specs.declared.entry.Entry.{Entry}
use Rattle.ledger_check.specs.{Columns.read_as, FirstLines.AreFirstTaken, FullChecks.TakenLine}
use Rattle.ledger_check.specs.{FullChecks.remark_lines, Ledger.IsLedger, Ledger.IsLedgerOf}
use Rattle.omny_audit.specs.Findings.{IsFindingOf, IsRightLedger}
use Rattle.omny_audit.specs.Traced.{AreColumnsReported, HasRightColumns, ReadLine, Wanted}
use Rattle.report_check.specs.Reports.{IsReportBeside, IsReportVerdictBeside}
use Rattle.report_check.specs.declared.verdict.ReportVerdict.{ReportVerdict, TheVariants.OfLedger}
use Rattle.report_check.specs.declared.verdict.ReportVerdict.TheVariants.{Wants, NoLine, Taps}
use Rattle.report_texts.specs.Report.{upload_line}
use Rattle.std.specs.Fmt.{decimal}
use Rattle.std.specs.Prelude.{◌≡◌, ◌↔◌, ◌⊎◌, ◌&&◌, ◌||◌, ℕ, Bool, true, false, List, [], ◌++◌}
use Rattle.std.specs.Prelude.{codes, ◌+◌, ◌∷◌, if◌then◌else◌, is_some, Option, None, Some}
use Rattle.tap_views.specs.UploadEnds.{are_posted, is_posted}
use Rattle.tap_views.specs.declared.{encoder.TapFields.TapFields, upload_end.UploadEnd.UploadEnd}
use Rattle.tariffs.specs.Fares.{Fares}

-- What a ledger is audited by: whether all its wrong lines are asked for, and whether one that is
-- not settled is well; the fares; what the columns are compared with, if it is a traced one; the
-- valid taps of the uploads, and how the uploads end, if there are uploads; and the report, if
-- there is one.
pub record Given : Type 0 where
  pub all : Bool
  pub live : Bool
  pub fares : Fares
  pub wanted : Option Wanted
  pub valid : Option (List TapFields)
  pub ends : Option (List UploadEnd)
  pub report : Option (List ℕ)

-- what is read of a ledger's file
abbrev pub ledger_in : Given → List ℕ → List ℕ
ledger_in given file = read_as (is_some given.wanted) file

-- the line of an upload, if it has a layout fault
abbrev pub damage_line : ℕ → UploadEnd → List ℕ
damage_line upload end = if is_posted end then [] else upload_line upload end

-- the lines of those of these uploads that have a layout fault, the first of which has this number
abbrev pub damage_lines : ℕ → List UploadEnd → List ℕ
damage_lines upload [] = []
damage_lines upload (end ∷ ends) =
    damage_line upload end ++ damage_lines (upload + 1) ends

-- the same, if there are uploads
abbrev pub damage_text : Option (List UploadEnd) → List ℕ
damage_text None = []
damage_text (Some ends) = damage_lines 0 ends

-- whether no upload has a layout fault
abbrev pub are_whole : Option (List UploadEnd) → Bool
are_whole None = true
are_whole (Some ends) = are_posted ends

-- `report of the ledger`, `wrong report line 4: wants LINE`, `wrong report line 4: no report has
-- it` or `wrong report line 4: the uploads have 5 taps, the ledger 6`; the wanted line has its line
-- feed
unfoldable pub report_text : ReportVerdict → List ℕ
report_text OfLedger = codes "report of the ledger\n"
report_text (Wants line wanted) =
    codes "wrong report line " ++ (decimal line ++ (codes ": wants " ++ wanted.items))
report_text (NoLine line) =
    codes "wrong report line " ++ (decimal line ++ codes ": no report has it\n")
report_text (Taps line uploads ledger) =
    codes "wrong report line " ++ (decimal line ++ (codes ": the uploads have "
    ++ (decimal uploads ++ (codes " taps, the ledger " ++ (decimal ledger ++ codes "\n")))))

-- What is said of the report, if there is a verdict on it; and that its lines of uploads were not
-- compared, if none are named.
abbrev pub verdict_lines : Option (List UploadEnd) → Option ReportVerdict → List ℕ
verdict_lines ends None = []
verdict_lines None (Some verdict) =
    report_text verdict ++ codes "upload lines not compared\n"
verdict_lines (Some ends) (Some verdict) = report_text verdict

-- The verdict on the report beside a ledger that is right or not. There is none without a report, or
-- on one beside a ledger that is not; else it is true beside whatever entries the ledger has.
abbrev pub IsVerdictOn : Option (List UploadEnd) → Fares → List ℕ → Option (List ℕ) → Bool
    → Option ReportVerdict → Type 0
IsVerdictOn ends fares ledger None right verdict = verdict ≡ None
IsVerdictOn ends fares ledger (Some report) false verdict = verdict ≡ None
IsVerdictOn ends fares ledger (Some report) true None = ⊥
IsVerdictOn ends fares ledger (Some report) true (Some verdict) = (entries : List Entry)
    → IsLedgerOf fares entries ledger → IsReportVerdictBeside ends entries report verdict

-- the report is that of the ledger's entries, and of uploads that end so, if their ends are known;
-- if there is a report
abbrev pub HasOwnReport : Option (List UploadEnd) → Option (List ℕ) → List Entry → Type 0
HasOwnReport ends None entries = Unit {0}
HasOwnReport ends (Some report) entries = IsReportBeside ends entries report

-- what is read of the file is, whole, a ledger of legal histories, settled if a live one is not
-- well, has the taps of the uploads, and right columns, if it is traced, the report is its own, and
-- no upload has a layout fault
abbrev pub IsRightAudit : Given → List ℕ → List ReadLine → Type 0
IsRightAudit given file read =
    (ledger : IsRightLedger given.live given.fares (ledger_in given file) given.valid)
    × (HasRightColumns given.wanted file read
    × (HasOwnReport given.ends given.report ledger.0.0 × (are_whole given.ends ≡ true)))

-- What is found of a ledger's file: what is found of the ledger that is read of it, beside the valid
-- taps of the uploads, if there are uploads; after it what is found of the columns of its lines, if
-- the ledger is traced, and legal or asked for all its lines; and after it what is found of the
-- report, if there is one, and of the uploads.
pub record IsAudit (given : Given) (file text : List ℕ) (success : Bool) : Type 0 where
  pub found : List ℕ
  pub finding : IsFindingOf given.all given.fares (ledger_in given file) given.valid found
  pub legal : Bool
  pub is_legal : (legal ≡ true) ↔ IsLedger given.fares (ledger_in given file)
  -- the lines that were read, if the ledger is traced
  pub read : List ReadLine
  pub columns : List ℕ
  pub right : Bool
  pub are_columns : AreColumnsReported given.wanted (given.all || legal) file read columns right
  pub verdict : Option ReportVerdict
  pub is_verdict : IsVerdictOn given.ends given.fares (ledger_in given file) given.report
      (legal && right) verdict
  pub shown : text
      ≡ found ++ (columns ++ (verdict_lines given.ends verdict ++ damage_text given.ends))
  -- all is well exactly if all is right
  pub well : (success ≡ true) ↔ IsRightAudit given file read

-- What an audit that fails may leave: a prefix of what is found of the file, or of the remarks on
-- its first lines, which are a prefix of it if all wrong lines are asked for
-- (`ledger_check::laws::full_checks_go_on`).
abbrev pub IsAuditText : Given → List ℕ → List ℕ → Type 0
IsAuditText given file text =
    ((success : Bool) × IsAudit given file text success)
    ⊎ ((given.all ≡ true) × (first : List TakenLine)
    × AreFirstTaken given.fares (ledger_in given file) first × (text ≡ remark_lines first))
