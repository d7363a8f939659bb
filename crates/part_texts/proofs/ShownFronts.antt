-- The front of a part's report, as it is printed, is taken.
use Rattle.std.proofs.Common.{◌≡◌, ◌+◌, ◌-◌, ◌<◌, ◌^◌, ◌||◌, ℕ, suc, true, false, List, [], ◌∷◌}
use Rattle.std.proofs.Common.{◌++◌, length, map, Option, Some, None, not, refl, arith, codes}
use Rattle.fare_texts.specs.Counts.{totals_line}
use Rattle.fare_texts.specs.ReportLines.{number_line, validator_line}
use Rattle.histories.specs.Sums.{Sums}
use Rattle.part_texts.proofs.HeadLines.{span_complete, span_is_one}
use Rattle.part_texts.proofs.Leads.{Leads, by_both, by_line, by_nothing}
use Rattle.part_texts.specs.FrontSteps.{front_step, is_over}
use Rattle.part_texts.specs.Fronts.{FrontsView, is_above, may_end, no_sums, position_eq, plus}
use Rattle.part_texts.specs.Fronts.{starts, sums_eq, sums_within, taps_before, with_validator}
use Rattle.part_texts.specs.{Heads.span_line, Heads.span_lines, Shown.SpanFits}
use Rattle.part_texts.specs.declared.fronts.Stage.TheVariants.{Head, Files, Uploads, AfterTotals}
use Rattle.part_texts.specs.declared.fronts.Stage.TheVariants.{Validators, Tokens}
use Rattle.part_texts.specs.inside.Shown.{are_joined, adds_to, are_added, are_posted_to}
use Rattle.part_texts.specs.inside.Shown.{are_increasing}
use Rattle.report_texts.proofs.Lines.{head_complete, totals_complete, upload_complete}
use Rattle.report_texts.proofs.{Lines.validator_complete, OneLine.head_is_one}
use Rattle.report_texts.proofs.OneLine.{totals_line_is_one, upload_is_one, validator_line_is_one}
use Rattle.report_texts.specs.{Numbers.AreCounts, Numbers.IsValidatorSum, Report.upload_line}
use Rattle.report_texts.specs.{Report.upload_lines, declared.wrong.Wrong.TheVariants.Form}
use Rattle.sorted_taps.specs.declared.positions.{FileSpan.FileSpan, Position.Position}
use Rattle.std.proofs.lemmas.Bool.{and_from, Decides.nat_tests}
use Rattle.std.specs.{List.AllByRecursion, Prelude.flat_map, Prelude.nat_eq, Prelude.nat_lt}
use Rattle.tap_views.specs.declared.upload_end.UploadEnd.TheVariants.{Posted}

abbrev pub FrontLeads : FrontsView → List ℕ → FrontsView → Type 0
FrontLeads = Leads (is_over false) Form front_step

true_itself : (n : ℕ) → nat_eq n n ≡ true
true_itself n = grind (arith, nat_tests)

same_position : (p : Position) → position_eq p p ≡ true
same_position p = and_from _ _ (true_itself p.offset) (true_itself p.skip)

pub same_sums : (s : Sums) → sums_eq s s ≡ true
same_sums s = grind (arith, nat_tests)

plus_fits : (a b : ℕ) → a + b < 2 ^ 64 → plus a b ≡ Some (a + b)
plus_fits a b small =
    let t : nat_lt (a + b) (2 ^ 64) ≡ true = grind (arith, nat_tests, small) in rw t

-- the number of a line is its place
position_is : (all at left : ℕ) → at + suc left ≡ all → nat_eq at (all - suc left) ≡ true
position_is all at left is = grind (arith, nat_tests, is)

one_less : (n : ℕ) → suc n - 1 ≡ n
one_less n = omega arith

-- ---- the head of a part
pub head_taken : (s : FrontsView) (files : ℕ) → files < 2 ^ 64
    → (s.is_first || nat_eq files (length s.ends)) ≡ true
    → FrontLeads (record s { stage = Head }) (number_line (codes "part files ") files)
    (record s { stage = Files files files })
head_taken s files small may =
    by_line (head_is_one (codes "part files ") files refl (omega arith) small) refl
    (rw (head_complete (codes "part files ") files small, may))

span_taken : (s : FrontsView) (files left file : ℕ) (rest : List (Option Position)) (span : FileSpan)
    → file + suc left ≡ files → files < 2 ^ 64 → SpanFits span
    → starts s.is_first s.ends ≡ Some (span.from, rest) → may_end s.is_last span.to ≡ true
    → FrontLeads (record s { stage = Files files (suc left) }) (span_line file span)
    (record s { stage = Files files left; ends = rest ++ span.to ∷ [] })
span_taken s files left file rest span where_is small fits start ends =
    let few : file < 2 ^ 64 = omega (arith, where_is, small) in
    by_line (span_is_one file span few fits) refl
    (rw (
      span_complete file span few fits,
      position_is files file left where_is,
      start,
      same_position span.from,
      ends,
      one_less left,
    ))

pub spans_taken : (s : FrontsView) (files file : ℕ) (all : List (Option Position))
    (spans : List FileSpan) → file + length spans ≡ files → files < 2 ^ 64
    → AllByRecursion SpanFits spans → are_joined s.is_first s.is_last s.ends spans all
    → FrontLeads (record s { stage = Files files (length spans) }) (span_lines file spans)
    (record s { stage = Files files 0; ends = all })
spans_taken s files file all [] where_is small fit joined = rw (← joined) by_nothing
spans_taken s files file all (span ∷ spans) where_is small fit (rest, start, ends, more) =
    by_both (span_taken s files (length spans) file rest span where_is small fit.0 start ends)
    (spans_taken (record s { ends = rest ++ span.to ∷ [] }) files (file + 1) all spans
    (omega (arith, where_is)) small fit.1 more)

-- ---- the fronts of reports
pub uploads_taken : (s : FrontsView) (files : ℕ) → files < 2 ^ 64
    → (s.is_first || not s.is_ledger) ≡ true
    → FrontLeads (record s { stage = Files files 0 }) (number_line (codes "uploads ") files)
    (record s { stage = Uploads files files 0; is_ledger = false })
uploads_taken s files small may =
    by_line (head_is_one (codes "uploads ") files refl (omega arith) small) refl
    (rw (head_complete (codes "uploads ") files small, true_itself files, may))

upload_taken : (s : FrontsView) (uploads left upload posted n before : ℕ) (rest : List ℕ)
    → upload + suc left ≡ uploads → uploads < 2 ^ 64 → n < 2 ^ 64
    → taps_before s.is_first s.taps ≡ Some (before, rest) → before + n < 2 ^ 64
    → posted + n < 2 ^ 64
    → FrontLeads (record s { stage = Uploads uploads (suc left) posted })
    (upload_line upload (Posted n))
    (record s { stage = Uploads uploads left (posted + n); taps = rest ++ (before + n) ∷ [] })
upload_taken s uploads left upload posted n before rest where_is small fits found all_fit sum_fits =
    let few : upload < 2 ^ 64 = omega (arith, where_is, small) in
    by_line (upload_is_one upload n few fits) refl
    (rw (
      upload_complete upload (Posted n) few fits,
      position_is uploads upload left where_is,
      found,
      plus_fits before n all_fit,
      plus_fits posted n sum_fits,
      one_less left,
    ))

pub posted_taken : (s : FrontsView) (uploads upload posted sum : ℕ) (all ns : List ℕ)
    → upload + length ns ≡ uploads → uploads < 2 ^ 64
    → are_posted_to s.is_first s.taps posted ns all sum
    → FrontLeads (record s { stage = Uploads uploads (length ns) posted })
    (upload_lines upload (map Posted ns)) (record s { stage = Uploads uploads 0 sum; taps = all })
posted_taken s uploads upload posted sum all [] where_is small (same, added) =
    rw (← same, ← added) by_nothing
posted_taken s uploads upload posted sum all (n ∷ ns) where_is small
    (before, rest, found, fits, all_fit, sum_fits, more) =
    by_both (upload_taken s uploads (length ns) upload posted n before rest where_is small fits found
    all_fit sum_fits)
    (posted_taken (record s { taps = rest ++ (before + n) ∷ [] }) uploads (upload + 1) (posted + n)
    sum all ns (omega (arith, where_is)) small more)

pub totals_taken : (s : FrontsView) (uploads : ℕ) (part all : Sums) → AreCounts part
    → sums_within s.totals part ≡ Some all
    → FrontLeads (record s { stage = Uploads uploads 0 part.taps }) (totals_line part)
    (record s { stage = AfterTotals; part = part; so_far = no_sums; totals = all })
totals_taken s uploads part all fits within =
    by_line (totals_line_is_one part fits) refl
    (rw (totals_complete part fits, true_itself part.taps, within))

pub validators_head_taken : (s : FrontsView) (left : ℕ) → left < 2 ^ 64
    → FrontLeads (record s { stage = AfterTotals }) (number_line (codes "validators ") left)
    (record s { stage = Validators left None })
validators_head_taken s left small =
    by_line (head_is_one (codes "validators ") left refl (omega arith) small) refl
    (rw (head_complete (codes "validators ") left small))

validator_taken : (s : FrontsView) (next : Sums) (all : List (ℕ × Sums)) (left : ℕ)
    (last : Option ℕ) (sum : ℕ × Sums) → IsValidatorSum sum → is_above last sum.0 ≡ true
    → sums_within s.so_far sum.1 ≡ Some next → with_validator s.validators sum ≡ Some all
    → FrontLeads (record s { stage = Validators (suc left) last }) (validator_line sum)
    (record s { stage = Validators left (Some sum.0); so_far = next; validators = all })
validator_taken s next all left last sum fits above within with_it =
    by_line (validator_line_is_one sum fits) refl
    (rw (validator_complete sum fits, above, within, with_it, one_less left))

-- the last validator, if there is one
abbrev pub last_key : Option ℕ → List (ℕ × Sums) → Option ℕ
last_key last [] = last
last_key last (sum ∷ sums) = last_key (Some sum.0) sums

pub validators_taken : (s : FrontsView) (end : Sums) (all : List (ℕ × Sums)) (last : Option ℕ)
    (sums : List (ℕ × Sums)) → AllByRecursion IsValidatorSum sums → are_increasing last sums
    → adds_to s.so_far sums end → are_added s.validators sums all
    → FrontLeads (record s { stage = Validators (length sums) last }) (flat_map validator_line sums)
    (record s { stage = Validators 0 (last_key last sums); so_far = end; validators = all })
validators_taken s end all last [] fit increase adds added = rw (← adds, ← added) by_nothing
validators_taken s end all last (sum ∷ sums) fit increase (next, one, more) (with_it, is_with, others) =
    by_both (validator_taken s next with_it (length sums) last sum fit.0 increase.0 one is_with)
    (validators_taken (record s { so_far = next; validators = with_it }) end all (Some sum.0) sums
    fit.1 increase.1 more others)

pub tokens_head_taken : (s : FrontsView) (left : ℕ) (last : Option ℕ) → left < 2 ^ 64
    → s.tokens + left < 2 ^ 64
    → FrontLeads (record s { stage = Validators 0 last; so_far = s.part })
    (number_line (codes "tokens ") left)
    (record s { stage = Tokens left; so_far = s.part; tokens = s.tokens + left })
tokens_head_taken s left last small few =
    by_line (head_is_one (codes "tokens ") left refl (omega arith) small) refl
    (rw (head_complete (codes "tokens ") left small, same_sums s.part, plus_fits s.tokens left few))
