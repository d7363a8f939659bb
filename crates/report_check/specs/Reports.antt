-- What a check finds of a report beside the entries of a ledger.
use Rattle.histories.specs.{Sums.sums, SumsByKey.sums_by_token, SumsByKey.sums_by_validator}
use Rattle.histories.specs.declared.entry.Entry.{Entry}
use Rattle.ledger_check.specs.Lines.{lines_of}
use Rattle.line_forms.specs.Forms.{after}
use Rattle.report_check.specs.Uploads.{uploads_in}
use Rattle.report_check.specs.declared.verdict.ReportVerdict.{ReportVerdict, TheVariants.OfLedger}
use Rattle.report_check.specs.declared.verdict.ReportVerdict.TheVariants.{Wants, NoLine, Taps}
use Rattle.report_texts.specs.{Numbers.IsUploadEnd, Report.report}
use Rattle.std.specs.Prelude.{◌≡◌, ◌↔◌, ℕ, ◌+◌, ◌<◌, ◌^◌, All, List, [], ◌∷◌, Option, Some, None}
use Rattle.std.specs.Prelude.{Bool, true, false, Result, Ok, Err, length, nat_eq, sum_by}
use Rattle.tap_views.specs.{UploadEnds.taps_of_end, declared.upload_end.UploadEnd.UploadEnd}
use Rattle.tap_views.specs.declared.upload_end.UploadEnd.TheVariants.{Posted, Refused, Cut, Undrawn}

-- an end as the line of an upload has it, whole or cut: the numbers have 64 bits
abbrev pub IsReportEnd : UploadEnd → Type 0
IsReportEnd (Posted taps) = IsUploadEnd (Posted taps)
IsReportEnd (Refused taps offset fault) = IsUploadEnd (Refused taps offset fault)
IsReportEnd (Cut taps) = taps < 2 ^ 64
IsReportEnd Undrawn = Unit {0}

-- the report of uploads that ended so, and of these entries
abbrev pub report_of : List UploadEnd → List Entry → List ℕ
report_of ends entries =
    report ends (sums entries) (sums_by_validator entries) (sums_by_token entries)

-- uploads that may have ended so, of which as many taps were posted as there are entries
pub record HaveTapsOf (ends : List UploadEnd) (entries : List Entry) : Type 0 where
  pub each : All IsReportEnd ends
  pub number : length ends < 2 ^ 64
  pub taps : sum_by taps_of_end ends ≡ length entries

-- The text is the report of the entries, and of some uploads that have as many taps: what a ledger
-- does not know is how its uploads ended.
pub record IsReportOfLedger (entries : List Entry) (text : List ℕ) : Type 0 where
  pub ends : List UploadEnd
  pub have : HaveTapsOf ends entries
  pub shown : text ≡ report_of ends entries

-- what follows from the rest of a text, or that the line of this number should be this one
abbrev pub rest_or : ℕ → List ℕ → (List ℕ → Option (ℕ × Option (List ℕ))) → Option (List ℕ)
    → Option (ℕ × Option (List ℕ))
rest_or number line next None = Some (number, Some line)
rest_or number line next (Some rest) = next rest

-- The first difference of a text from the lines that are wanted, of which the first has this
-- number: the number of a line, and the line that is wanted there, or none if all are before it.
abbrev pub difference : ℕ → List (List ℕ) → List ℕ → Option (ℕ × Option (List ℕ))
difference number [] [] = None
difference number [] (byte ∷ text) = Some (number, None)
difference number (line ∷ lines) text =
    rest_or number line (λ rest. difference (number + 1) lines rest) (after line text)

-- the verdict is that this is the first difference
abbrev pub IsDifference : Option (ℕ × Option (List ℕ)) → ReportVerdict → Type 0
IsDifference found OfLedger = found ≡ None
IsDifference found (Wants number line) = found ≡ Some (number, Some line.items)
IsDifference found (NoLine number) = found ≡ Some (number, None)
IsDifference found (Taps line uploads ledger) = ⊥

-- the verdict is the first difference of the text from the wanted one
abbrev pub IsDifferenceFrom : List ℕ → List ℕ → ReportVerdict → Type 0
IsDifferenceFrom text wanted verdict = IsDifference (difference 1 (lines_of wanted) text) verdict

-- the verdict is that no report has the line of this number
abbrev pub IsNoLine : ℕ → ReportVerdict → Type 0
IsNoLine number OfLedger = ⊥
IsNoLine number (Wants other line) = ⊥
IsNoLine number (NoLine other) = other ≡ number
IsNoLine number (Taps line uploads ledger) = ⊥

-- the verdict is that up to their last line these uploads have another number of taps
abbrev pub AreOtherTaps : List UploadEnd → List Entry → ReportVerdict → Type 0
AreOtherTaps ends entries OfLedger = ⊥
AreOtherTaps ends entries (Wants number line) = ⊥
AreOtherTaps ends entries (NoLine number) = ⊥
AreOtherTaps ends entries (Taps line uploads ledger) = (line ≡ length ends + 1)
    × (uploads ≡ sum_by taps_of_end ends) × (ledger ≡ length entries)

-- the verdict beside these uploads, by whether they have as many taps as the ledger
abbrev pub IsVerdictBy : Bool → List UploadEnd → List Entry → List ℕ → ReportVerdict → Type 0
IsVerdictBy true ends entries text verdict =
    IsDifferenceFrom text (report_of ends entries) verdict
IsVerdictBy false ends entries text verdict = AreOtherTaps ends entries verdict

-- the verdict by what the lines of the uploads say
abbrev pub IsVerdictOn : Result (List UploadEnd) ℕ → List Entry → List ℕ → ReportVerdict → Type 0
IsVerdictOn (Ok ends) entries text verdict =
    IsVerdictBy (nat_eq (sum_by taps_of_end ends) (length entries)) ends entries text verdict
IsVerdictOn (Err number) entries text verdict = IsNoLine number verdict

-- The verdict on the text beside the entries of the ledger. If it is known how the uploads ended, it
-- is the first difference from the report of these ends. Else it is that from the report of the ends
-- that its own first lines say, if these have as many taps.
abbrev pub IsReportVerdictBeside : Option (List UploadEnd) → List Entry → List ℕ → ReportVerdict
    → Type 0
IsReportVerdictBeside None entries text verdict =
    IsVerdictOn (uploads_in (lines_of text)) entries text verdict
IsReportVerdictBeside (Some ends) entries text verdict =
    IsDifferenceFrom text (report_of ends entries) verdict

-- the text is the report of the entries, and of the uploads that ended so, if their ends are known
abbrev pub IsReportBeside : Option (List UploadEnd) → List Entry → List ℕ → Type 0
IsReportBeside None entries text = IsReportOfLedger entries text
IsReportBeside (Some ends) entries text = text ≡ report_of ends entries

-- whether the verdict is that the report is the ledger's
abbrev pub is_of_ledger : ReportVerdict → Bool
is_of_ledger OfLedger = true
is_of_ledger (Wants number line) = false
is_of_ledger (NoLine number) = false
is_of_ledger (Taps line uploads ledger) = false

-- a verdict that is true says that the report is the ledger's exactly if it is
abbrev pub ReportVerdictsDecide : Type 0
ReportVerdictsDecide =
    (ends : Option (List UploadEnd)) (entries : List Entry) (text : List ℕ)
    (verdict : ReportVerdict) → IsReportVerdictBeside ends entries text verdict
    → (is_of_ledger verdict ≡ true) ↔ IsReportBeside ends entries text
