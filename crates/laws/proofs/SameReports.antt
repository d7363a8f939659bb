-- Reports over one history differ in the lines of their uploads alone.
use Rattle.std.proofs.Common.{◌≡◌, ℕ, List, ◌++◌, ap, ◌∙◌}
use Rattle.fare_texts.specs.Counts.{totals_line}
use Rattle.histories.specs.{Sums.sums, SumsByKey.sums_by_validator, SumsByKey.sums_by_token}
use Rattle.histories.specs.declared.entry.Entry.{Entry}
use Rattle.laws.specs.Agree.{DifferInUploads}
use Rattle.report_texts.specs.OverHistory.{IsReportOver}
use Rattle.report_texts.specs.Report.{report, validators_section, tokens_section}

rest_of : List Entry → List ℕ
rest_of es = totals_line (sums es)
    ++ (validators_section (sums_by_validator es) ++ tokens_section (sums_by_token es))

pub same_reports : (uploads others : List (List ℕ)) (history again : List Entry)
    (text other : List ℕ) → history ≡ again
    → IsReportOver uploads history text → IsReportOver others again other
    → DifferInUploads uploads others text other
unfolding rest_of
same_reports uploads others history again text other same one two = record {
  ends = one.ends;
  other_ends = two.ends;
  of_uploads = one.of_uploads;
  of_others = two.of_uploads;
  rest = rest_of again;
  text_is = one.shown ∙ ap (λ es.
      report one.ends (sums es) (sums_by_validator es) (sums_by_token es)) same;
  other_is = two.shown;
}
