-- Parts of files are parts of a history, and their numbers fit.
use Rattle.std.proofs.Common.{refl, sym, ap, subst, ◌∙◌, arith, length-append}
use Rattle.fare_texts.specs.Ledger.{IsLedgerOver}
use Rattle.histories.specs.{Sums.sums, SumsByKey.sums_by_token, SumsByKey.sums_by_validator}
use Rattle.histories.specs.declared.entry.Entry.{Entry}
use Rattle.laws.proofs.CentsFit.{posted_few, tokens_fit}
use Rattle.laws.proofs.SumsFit.{CostsFew, EntryFits, summed}
use Rattle.laws.specs.PartTexts.{IsLedgerText, history_part, part_report}
use Rattle.laws.specs.Sizes.{CanBeWritten, HaveBoundedTerms, HaveNumbers, HavePositions}
use Rattle.part_texts.specs.HistoryParts.{AreRight, Fits, HistoryPart, histories_of, numbers_of}
use Rattle.part_texts.specs.HistoryParts.{report_of, whole_history}
use Rattle.part_texts.specs.HistoryParts.{AreIncreasing as HistoriesIncrease, added as added_up}
use Rattle.part_texts.specs.{LedgerParts.DoJoinUp, LedgerParts.IsPartLedger, Merged.merge_of}
use Rattle.part_texts.specs.Shown.{SpanFits, part_text, sum_up}
use Rattle.report_texts.specs.{OverHistory.IsReportOver, Report.report}
use Rattle.settlement.proofs.TokenRuns.{posted_length}
use Rattle.settled_bills.specs.Parts.{ArePartsOf, AreIncreasing, IsPartOf, PartView, added}
use Rattle.settled_bills.specs.Parts.{numbers_of_parts}
use Rattle.sorted_taps.specs.Positions.{AreSpanned, AreWhole}
use Rattle.sorted_taps.specs.declared.positions.FileSpan.{FileSpan}
use Rattle.std.proofs.lemmas.List.{length-map, Elements.All-cons}
use Rattle.std.proofs.lemmas.List.Elements.{All-head, All-nil, All-tail, recursion_from_All}
use Rattle.std.proofs.lemmas.List.Sorted.{length_permutation}
use Rattle.std.specs.{List.AllByRecursion, List.AllZip, Prelude.◌≡◌, Prelude.ℕ, Prelude.◌+◌}
use Rattle.std.specs.Prelude.{◌<◌, ◌^◌, List, [], ◌∷◌, ◌++◌, All, None, Ok, flat_map, length, map}
use Rattle.tap_views.specs.{Token.Fits as TokenFits, UploadEnds.ArePlainEnds}
use Rattle.tap_views.specs.declared.encoder.TapFields.{TapFields}
use Rattle.tap_views.specs.declared.upload_end.UploadEnd.TheVariants.{Posted}
use Rattle.tariffs.specs.Fares.{Fares}

-- ---- lengths
number_of_spans : (files : List (List ℕ)) (spans : List FileSpan) (lists : List (List TapFields))
    → AreSpanned files spans lists → length spans ≡ length files
number_of_spans [] [] [] are = refl
number_of_spans (all ∷ files) (span ∷ spans) (taps ∷ lists) are =
    let one = number_of_spans files spans lists are.1 in omega (arith, one)
number_of_spans [] [] (taps ∷ lists) are = absurd are
number_of_spans [] (span ∷ spans) lists are = absurd are
number_of_spans (all ∷ files) [] lists are = absurd are
number_of_spans (all ∷ files) (span ∷ spans) [] are = absurd are

number_of_lists : (files : List (List ℕ)) (spans : List FileSpan) (lists : List (List TapFields))
    → AreSpanned files spans lists → length lists ≡ length files
number_of_lists [] [] [] are = refl
number_of_lists (all ∷ files) (span ∷ spans) (taps ∷ lists) are =
    let one = number_of_lists files spans lists are.1 in omega (arith, one)
number_of_lists [] [] (taps ∷ lists) are = absurd are
number_of_lists [] (span ∷ spans) lists are = absurd are
number_of_lists (all ∷ files) [] lists are = absurd are
number_of_lists (all ∷ files) (span ∷ spans) [] are = absurd are

lists_length : (lists : List (List TapFields))
    → sum_up (map length lists) ≡ length (flat_map (λ list. list) lists)
lists_length [] = refl
lists_length (list ∷ lists) =
    let rest = lists_length lists in
    let both = length-append list (flat_map (λ list. list) lists) in omega (arith, rest, both)

-- ---- the numbers of a part
entries_fit : (history : List Entry) → All (λ entry. TokenFits entry.token) history
    → HaveNumbers history → All EntryFits history
entries_fit [] tokens numbers = All-nil EntryFits
entries_fit (e ∷ history) tokens numbers =
    All-cons EntryFits e history (
      All-head (λ entry. entry.validator < 2 ^ 32) e history numbers,
      All-head (λ entry. TokenFits entry.token) e history tokens,
    )
    (entries_fit history (All-tail (λ entry. TokenFits entry.token) e history tokens)
    (All-tail (λ entry. entry.validator < 2 ^ 32) e history numbers))

module _ (fares : Fares) (bounds : HaveBoundedTerms fares) (files : List (List ℕ)) where
  part_fits : (part : PartView) → IsPartOf fares files part.spans part.lists part.history
      → length files < 2 ^ 64 → AllByRecursion SpanFits part.spans → HaveNumbers part.history
      → length part.history < 2 ^ 47 → Fits (history_part part)
  part_fits part is few positions numbers taps =
      let spans = number_of_spans files part.spans part.lists is.spanned in
      let lists = number_of_lists files part.spans part.lists is.spanned in
      let can = summed part.history taps
      (subst (All CostsFew) (sym is.posted_are) (posted_few fares bounds [] is.taps))
      (entries_fit part.history
      (subst (All (λ (entry : Entry). TokenFits entry.token)) (sym is.posted_are)
      (tokens_fit fares [] is.taps is.named)) numbers) in
      record {
        files = omega (arith, spans, few);
        spans = positions;
        uploads = length-map part.lists length ∙ lists ∙ sym spans;
        posted = lists_length part.lists ∙ moved is
            ∙ sym (ap length is.posted_are ∙ posted_length fares [] is.taps);
        totals = can.totals;
        validators = recursion_from_All _ (sums_by_validator part.history) can.validators;
        tokens = recursion_from_All _ (sums_by_token part.history) can.tokens;
      }
    where
      moved : (is : IsPartOf fares files part.spans part.lists part.history)
          → length (flat_map (λ list. list) part.lists) ≡ length is.taps
      moved is = sym
          (length_permutation (flat_map (λ list. list) part.lists) is.taps is.canonical.moved)

  -- ---- all parts
  all_spans : (parts : List PartView) → ArePartsOf fares files parts
      → AllByRecursion (λ (p : HistoryPart). length p.spans ≡ length files) (map history_part parts)
  all_spans [] are = tt
  all_spans (part ∷ parts) are =
      let here = All-head (λ (p : PartView). IsPartOf fares files p.spans p.lists p.history) part
      parts are in (
        number_of_spans files part.spans part.lists here.spanned,
        all_spans parts
            (All-tail (λ (p : PartView). IsPartOf fares files p.spans p.lists p.history) part parts
            are),
      )

  all_fits : (parts : List PartView) → ArePartsOf fares files parts → length files < 2 ^ 64
      → AllByRecursion (λ part. AllByRecursion SpanFits part.spans) parts
      → AllByRecursion (λ part. HaveNumbers part.history) parts
      → length (flat_map (λ part. part.history) parts) < 2 ^ 47
      → AllByRecursion Fits (map history_part parts)
  all_fits [] are few positions numbers taps = tt
  all_fits (part ∷ parts) are few positions numbers taps =
      let both = length-append part.history (flat_map (λ part. part.history) parts) in (
        part_fits part
            (All-head (λ (p : PartView). IsPartOf fares files p.spans p.lists p.history) part parts
            are)
            few positions.0 numbers.0 (omega (arith, taps, both)),
        all_fits parts
            (All-tail (λ (p : PartView). IsPartOf fares files p.spans p.lists p.history) part parts
            are)
            few positions.1 numbers.1 (omega (arith, taps, both)),
      )

-- ---- the same in the words of both crates
spans_same : (parts : List PartView)
    → map (λ (p : HistoryPart). p.spans) (map history_part parts)
    ≡ map (λ (p : PartView). p.spans) parts
spans_same [] = refl
spans_same (part ∷ parts) = ap (λ (l : List (List FileSpan)). part.spans ∷ l) (spans_same parts)

histories_same : (parts : List PartView)
    → histories_of (map history_part parts) ≡ map (λ (p : PartView). p.history) parts
histories_same [] = refl
histories_same (part ∷ parts) =
    ap (λ (l : List (List Entry)). part.history ∷ l) (histories_same parts)

whole_same : (parts : List PartView)
    → whole_history (map history_part parts) ≡ flat_map (λ (p : PartView). p.history) parts
whole_same [] = refl
whole_same (part ∷ parts) = ap (λ (l : List Entry). part.history ++ l) (whole_same parts)

increase_same : (histories : List (List Entry)) → AreIncreasing histories
    → HistoriesIncrease histories
increase_same [] increase = tt
increase_same (history ∷ later) increase = (increase.0, increase_same later increase.1)

added_same : (xs ys : List ℕ) → added xs ys ≡ added_up xs ys
added_same [] ys = refl
added_same (x ∷ xs) [] = refl
added_same (x ∷ xs) (y ∷ ys) = ap (λ (l : List ℕ). (x + y) ∷ l) (added_same xs ys)

numbers_same : (parts : List PartView)
    → numbers_of (map history_part parts) ≡ numbers_of_parts parts
numbers_same [] = refl
numbers_same (part ∷ parts) =
    ap (added_up (map length part.lists)) (numbers_same parts)
    ∙ sym (added_same (map length part.lists) (numbers_of_parts parts))

texts_same : (parts : List PartView)
    → map part_text (map report_of (map history_part parts)) ≡ map part_report parts
texts_same [] = refl
texts_same (part ∷ parts) = ap (λ (l : List (List ℕ)). part_report part ∷ l) (texts_same parts)

pub are_right : (fares : Fares) (files : List (List ℕ)) (parts : List PartView)
    → ArePartsOf fares files parts → AreWhole (map (λ p. p.spans) parts)
    → AreIncreasing (map (λ p. p.history) parts) → HaveBoundedTerms fares → CanBeWritten files parts
    → AreRight (length files) (map history_part parts)
are_right fares files parts are whole increase bounds can = record {
  number = all_spans fares bounds files parts are;
  whole = subst AreWhole (sym (spans_same parts)) whole;
  increase = increase_same (histories_of (map history_part parts))
      (subst AreIncreasing (sym (histories_same parts)) increase);
  fit = all_fits fares bounds files parts are can.number can.positions can.numbers can.taps;
  few = (let t = can.taps in let s = ap length (whole_same parts) in omega (arith, t, s));
}

-- what reports of right parts are merged into
abbrev pub ReportsMerge : Type 0
ReportsMerge = (files : ℕ) (part : HistoryPart) (parts : List HistoryPart)
    → AreRight files (part ∷ parts)
    → merge_of (map part_text (map report_of (part ∷ parts)))
    ≡ Ok (report (map Posted (numbers_of (part ∷ parts))) (sums (whole_history (part ∷ parts)))
    (sums_by_validator (whole_history (part ∷ parts)))
    (sums_by_token (whole_history (part ∷ parts))))

pub reports_of_parts : (merge : ReportsMerge) (fares : Fares) (files : List (List ℕ))
    (part : PartView) (parts : List PartView) → ArePartsOf fares files (part ∷ parts)
    → AreWhole (map (λ p. p.spans) (part ∷ parts))
    → AreIncreasing (map (λ p. p.history) (part ∷ parts))
    → HaveBoundedTerms fares → CanBeWritten files (part ∷ parts)
    → ArePlainEnds files (map Posted (numbers_of_parts (part ∷ parts)))
    → (text : List ℕ) × (merge_of (map part_report (part ∷ parts)) ≡ Ok text)
    × IsReportOver files (flat_map (λ p. p.history) (part ∷ parts)) text
reports_of_parts merge fares files part parts are whole increase bounds can ends =
    let history = flat_map (λ (p : PartView). p.history) (part ∷ parts) in
    let text = report (map Posted (numbers_of_parts (part ∷ parts))) (sums history)
    (sums_by_validator history) (sums_by_token history) in (
      text,
      ap merge_of (sym (texts_same (part ∷ parts)))
          ∙ merge (length files) (history_part part) (map history_part parts)
          (are_right fares files (part ∷ parts) are whole increase bounds can)
          ∙ ap (λ h. Ok (report (map Posted (numbers_of (map history_part (part ∷ parts)))) (sums h)
          (sums_by_validator h) (sums_by_token h))) (whole_same (part ∷ parts))
          ∙ ap (λ ns. Ok (report (map Posted ns) (sums history) (sums_by_validator history)
          (sums_by_token history))) (numbers_same (part ∷ parts)),
      record {
        ends = map Posted (numbers_of_parts (part ∷ parts));
        of_uploads = ends;
        shown = refl;
      },
    )

-- ---- ledgers
module _ (fares : Fares) (files : List (List ℕ)) where
  numbers_are : (parts : List PartView) → ArePartsOf fares files parts
      → AllByRecursion (λ (p : HistoryPart). length p.spans ≡ length files) (map history_part parts)
  numbers_are [] are = tt
  numbers_are (part ∷ parts) are = (
    number_of_spans files part.spans part.lists
        (All-head (λ (p : PartView). IsPartOf fares files p.spans p.lists p.history) part parts
        are).spanned,
    numbers_are parts
        (All-tail (λ (p : PartView). IsPartOf fares files p.spans p.lists p.history) part parts
        are),
  )

  positions_are : (parts : List PartView)
      → AllByRecursion (λ (part : PartView). AllByRecursion SpanFits part.spans) parts
      → AllByRecursion (λ (p : HistoryPart). AllByRecursion SpanFits p.spans)
      (map history_part parts)
  positions_are [] positions = tt
  positions_are (part ∷ parts) positions = (positions.0, positions_are parts positions.1)

  join_up : (parts : List PartView) → ArePartsOf fares files parts
      → AreWhole (map (λ p. p.spans) parts) → AreIncreasing (map (λ p. p.history) parts)
      → HavePositions files parts → DoJoinUp (length files) (map history_part parts)
  join_up parts are whole increase have = record {
    few = have.number;
    number = numbers_are parts are;
    positions = positions_are parts have.positions;
    whole = subst AreWhole (sym (spans_same parts)) whole;
    increase = increase_same (histories_of (map history_part parts))
        (subst AreIncreasing (sym (histories_same parts)) increase);
  }

  texts_of : (parts : List PartView) (texts : List (List ℕ))
      → AllZip (IsLedgerText fares) parts texts
      → AllZip (IsPartLedger fares) (map history_part parts) texts
  texts_of [] [] are = tt
  texts_of [] (t ∷ ts) are = absurd are
  texts_of (p ∷ ps) [] are = absurd are
  texts_of (p ∷ ps) (t ∷ ts) are = (are.0, texts_of ps ts are.1)

-- what is merged of ledgers of right parts
abbrev pub LedgersAreWhole : Type 0
LedgersAreWhole = (fares : Fares) (files : ℕ) (part : HistoryPart) (parts : List HistoryPart)
    (texts : List (List ℕ)) → DoJoinUp files (part ∷ parts)
    → AllZip (IsPartLedger fares) (part ∷ parts) texts
    → (text : List ℕ) → merge_of texts ≡ Ok text
    → IsLedgerOver fares (whole_history (part ∷ parts)) None text

pub ledgers_of_parts : (law : LedgersAreWhole) (fares : Fares) (files : List (List ℕ))
    (part : PartView) (parts : List PartView) → HavePositions files (part ∷ parts)
    → ArePartsOf fares files (part ∷ parts)
    → AreWhole (map (λ p. p.spans) (part ∷ parts))
    → AreIncreasing (map (λ p. p.history) (part ∷ parts))
    → (texts : List (List ℕ)) → AllZip (IsLedgerText fares) (part ∷ parts) texts
    → (text : List ℕ) → merge_of texts ≡ Ok text
    → IsLedgerOver fares (flat_map (λ p. p.history) (part ∷ parts)) None text
ledgers_of_parts law fares files part parts have are whole increase texts each text is =
    subst (λ (h : List Entry). IsLedgerOver fares h None text) (whole_same (part ∷ parts))
    (law fares (length files) (history_part part) (map history_part parts) texts
    (join_up fares files (part ∷ parts) are whole increase have)
    (texts_of fares files (part ∷ parts) texts each) text is)
