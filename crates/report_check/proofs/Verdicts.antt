-- The verdict by what the lines of the uploads say.
use Rattle.std.proofs.Common.{◌≡◌, ◌≢◌, ◌∙◌, ℕ, ◌+◌, Bool, List, length, Result, Ok, sym, ap, subst}
use Rattle.std.proofs.Common.{eq-eqb}
use Rattle.histories.proofs.SumsLemmas.{sums-taps}
use Rattle.histories.specs.{Sums.Sums, declared.entry.Entry.Entry}
use Rattle.ledger_check.specs.{Lines.lines_of, Sums.AreSumsOf}
use Rattle.ledger_check.specs.declared.open_sums.EntrySums.{EntrySums}
use Rattle.report_check.specs.Reports.{IsDifferenceFrom, IsVerdictBy, IsVerdictOn, report_of}
use Rattle.report_check.specs.Uploads.{uploads_in}
use Rattle.report_check.specs.declared.verdict.ReportVerdict.{ReportVerdict, TheVariants.Taps}
use Rattle.std.proofs.lemmas.Bool.{ne_eqb}
use Rattle.std.specs.Prelude.{sum_by}
use Rattle.tap_views.specs.{UploadEnds.taps_of_end, declared.upload_end.UploadEnd.UploadEnd}

counted : (entries : List Entry) (made : EntrySums) → AreSumsOf entries made
    → made.totals.taps ≡ length entries
counted entries made are = ap (λ (s : Sums). s.taps) are.totals ∙ sums-taps entries

pub with_taps : (entries : List Entry) (text : List ℕ) (made : EntrySums)
    (ends listed shown : List UploadEnd) (taps : ℕ) (verdict : ReportVerdict)
    → AreSumsOf entries made → uploads_in (lines_of text) ≡ Ok ends → listed ≡ ends → shown ≡ ends
    → taps ≡ sum_by taps_of_end listed → taps ≡ made.totals.taps
    → IsDifferenceFrom text (report_of shown entries) verdict
    → IsVerdictOn (uploads_in (lines_of text)) entries text verdict
with_taps entries text made ends listed shown taps verdict are found is is_too counts same apart =
    let sum : sum_by taps_of_end ends ≡ length entries =
    ap (λ (es : List UploadEnd). sum_by taps_of_end es) (sym is) ∙ sym counts ∙ same
    ∙ counted entries made are in
    subst (λ (r : Result (List UploadEnd) ℕ). IsVerdictOn r entries text verdict) (sym found)
    (subst (λ (b : Bool). IsVerdictBy b ends entries text verdict)
    (sym (eq-eqb (sum_by taps_of_end ends) (length entries) sum))
    (subst (λ (es : List UploadEnd). IsDifferenceFrom text (report_of es entries) verdict) is_too
    apart))

pub other_taps : (entries : List Entry) (text : List ℕ) (made : EntrySums)
    (ends listed : List UploadEnd) (taps line : ℕ)
    → AreSumsOf entries made → uploads_in (lines_of text) ≡ Ok ends → listed ≡ ends
    → taps ≡ sum_by taps_of_end listed → taps ≢ made.totals.taps → line ≡ length ends + 1
    → IsVerdictOn (uploads_in (lines_of text)) entries text (Taps line taps made.totals.taps)
other_taps entries text made ends listed taps line are found is counts apart number =
    let verdict = Taps line taps made.totals.taps in
    let sum : taps ≡ sum_by taps_of_end ends =
    counts ∙ ap (λ (es : List UploadEnd). sum_by taps_of_end es) is in
    let ledger = counted entries made are in
    subst (λ (r : Result (List UploadEnd) ℕ). IsVerdictOn r entries text verdict) (sym found)
    (subst (λ (b : Bool). IsVerdictBy b ends entries text verdict)
    (sym (ne_eqb (sum_by taps_of_end ends) (length entries)
    (λ same. apart (sum ∙ same ∙ sym ledger))))
    (number, sum, ledger))
