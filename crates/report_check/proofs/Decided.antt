-- A true verdict says that a report is the ledger's exactly if it is.
use Rattle.std.proofs.Common.{◌≡◌, ◌∙◌, ℕ, Bool, true, false, List, ◌++◌, length, Some, None}
use Rattle.std.proofs.Common.{Result, Ok, Err, append_assoc, codes, refl, sym, ap, eq-eqb, eqb-true}
use Rattle.fare_texts.specs.{Counts.totals_line, ReportLines.number_line}
use Rattle.histories.specs.{Sums.sums, SumsByKey.sums_by_token, SumsByKey.sums_by_validator}
use Rattle.histories.specs.declared.entry.Entry.{Entry}
use Rattle.ledger_check.specs.Lines.{lines_of}
use Rattle.report_check.proofs.Differences.{none_same, same_none}
use Rattle.report_check.proofs.EndLines.{uploads_complete, uploads_sound}
use Rattle.report_check.specs.Reports.{IsDifferenceFrom, IsReportOfLedger, IsVerdictBy, IsVerdictOn}
use Rattle.report_check.specs.Reports.{ReportVerdictsDecide, is_of_ledger, report_of}
use Rattle.report_check.specs.Uploads.{uploads_in}
use Rattle.report_check.specs.declared.verdict.ReportVerdict.{ReportVerdict, TheVariants.OfLedger}
use Rattle.report_check.specs.declared.verdict.ReportVerdict.TheVariants.{Wants, NoLine, Taps}
use Rattle.report_texts.specs.Report.{tokens_section, upload_lines, validators_section}
use Rattle.std.proofs.lemmas.Bool.{false≢true}
use Rattle.std.specs.Prelude.{◌↔◌, nat_eq, sum_by}
use Rattle.tap_views.specs.{UploadEnds.taps_of_end, declared.upload_end.UploadEnd.UploadEnd}

other : (Is : Type 0) → ¬ Is → (false ≡ true) ↔ Is
other Is not = (λ is. absurd (false≢true is), λ own. absurd (not own))

some_none : {A : Type 0} {a : A} → Some a ≡ None → ⊥
some_none is = cc

by_ends : (text wanted : List ℕ) (verdict : ReportVerdict) → IsDifferenceFrom text wanted verdict
    → (is_of_ledger verdict ≡ true) ↔ (text ≡ wanted)
by_ends text wanted OfLedger is = (λ yes. none_same text wanted is, λ own. refl)
by_ends text wanted (Wants number line) is =
    other (text ≡ wanted) (λ same. some_none (sym is ∙ same_none text wanted same))
by_ends text wanted (NoLine number) is =
    other (text ≡ wanted) (λ same. some_none (sym is ∙ same_none text wanted same))
by_ends text wanted (Taps line uploads ledger) is = absurd is

-- the report of a ledger says how its uploads ended
own_ends : (entries : List Entry) (text : List ℕ) (own : IsReportOfLedger entries text)
    → uploads_in (lines_of text) ≡ Ok own.ends
own_ends entries text own =
    let trailing = totals_line (sums entries)
    ++ (validators_section (sums_by_validator entries) ++ tokens_section (sums_by_token entries)) in
    ap (λ (t : List ℕ). uploads_in (lines_of t)) (own.shown
    ∙ append_assoc (number_line (codes "uploads ") (length own.ends)) (upload_lines 0 own.ends)
    trailing)
    ∙ uploads_complete own.ends trailing own.have.each own.have.number

same_ends : (ends others : List UploadEnd) (found : Result (List UploadEnd) ℕ)
    → found ≡ Ok ends → found ≡ Ok others → ends ≡ others
same_ends ends others found is is_too = cc

no_ends : (number : ℕ) (ends : List UploadEnd) (found : Result (List UploadEnd) ℕ)
    → found ≡ Err number → found ≡ Ok ends → ⊥
no_ends number ends found is is_too = cc

by_taps : (entries : List Entry) (text : List ℕ) (ends : List UploadEnd) (verdict : ReportVerdict)
    (b : Bool) → uploads_in (lines_of text) ≡ Ok ends
    → nat_eq (sum_by taps_of_end ends) (length entries) ≡ b
    → IsVerdictBy b ends entries text verdict
    → (is_of_ledger verdict ≡ true) ↔ IsReportOfLedger entries text
by_taps entries text ends verdict true found same is =
    let read = uploads_sound (lines_of text) ends found in
    let decided = by_ends text (report_of ends entries) verdict is in (
      λ yes. record {
        ends = ends;
        have = record {
          each = read.each;
          number = read.number;
          taps = eqb-true (sum_by taps_of_end ends) (length entries) same;
        };
        shown = decided.0 yes;
      },
      λ own. decided.1 (own.shown ∙ ap (λ (es : List UploadEnd). report_of es entries)
          (same_ends own.ends ends (uploads_in (lines_of text)) (own_ends entries text own) found)),
    )
by_taps entries text ends OfLedger false found apart is = absurd is
by_taps entries text ends (Wants number line) false found apart is = absurd is
by_taps entries text ends (NoLine number) false found apart is = absurd is
by_taps entries text ends (Taps line uploads ledger) false found apart is =
    other (IsReportOfLedger entries text) (λ own.
    let same = same_ends own.ends ends (uploads_in (lines_of text)) (own_ends entries text own)
    found in
    false≢true (sym apart ∙ eq-eqb (sum_by taps_of_end ends) (length entries)
    (ap (λ (es : List UploadEnd). sum_by taps_of_end es) (sym same) ∙ own.have.taps)))

by_lines : (entries : List Entry) (text : List ℕ) (found : Result (List UploadEnd) ℕ)
    (verdict : ReportVerdict) → uploads_in (lines_of text) ≡ found
    → IsVerdictOn found entries text verdict
    → (is_of_ledger verdict ≡ true) ↔ IsReportOfLedger entries text
by_lines entries text (Ok ends) verdict found is =
    by_taps entries text ends verdict (nat_eq (sum_by taps_of_end ends) (length entries)) found refl
    is
by_lines entries text (Err number) OfLedger found is = absurd is
by_lines entries text (Err number) (Wants line wanted) found is = absurd is
by_lines entries text (Err number) (NoLine line) found is =
    other (IsReportOfLedger entries text) (λ own. no_ends number own.ends
    (uploads_in (lines_of text)) found (own_ends entries text own))
by_lines entries text (Err number) (Taps line uploads ledger) found is = absurd is

pub decides : ReportVerdictsDecide
decides None entries text verdict is =
    by_lines entries text (uploads_in (lines_of text)) verdict refl is
decides (Some ends) entries text verdict is = by_ends text (report_of ends entries) verdict is
