-- The rows of an agency's CSV, one after the other, and what is read of them.
use Rattle.std.proofs.Common.{◌≡◌, ℕ, ◌+◌, ◌≤◌, ◌⊎◌, inl, inr, List, [], ◌∷◌, ◌++◌, length, None}
use Rattle.std.proofs.Common.{Some, refl, sym, ap, subst, ◌∙◌, arith, append-nil, append_assoc}
use Rattle.std.proofs.{Common.length-append, lemmas.List.map-append}
use Rattle.std.proofs.lemmas.List.{Concat.flat_map-append, Elements.Contains-append_left}
use Rattle.std.proofs.lemmas.List.{Elements.Contains-append_right, Sums.sum_by-append}
use Rattle.std.specs.List.{AllByRecursion, AllZip}
use Rattle.std.specs.Prelude.{Option, Contains, max, min, map, flat_map}
use Rattle.tap_rows.specs.Agencies.{IsSummary, Refusal, first_refusal, left_out_in, left_out_of}
use Rattle.tap_rows.specs.Agencies.{refusal_of, refusals, refusals_from, refusals_text}
use Rattle.tap_rows.specs.Agencies.{refusal_text, refusals_head, tap_of, taps_in}
use Rattle.tap_rows.specs.{AgencyRows.IsParseOf, declared.agency.choice.Choice.Choice}
use Rattle.tap_rows.specs.declared.agency.{choice.Separator.Separator, reading.Reading.Reading}
use Rattle.tap_rows.specs.declared.agency.{reading.Reason.Reason, summary.Summary.Summary}
use Rattle.tap_views.specs.{Facts.IsSpan, Facts.IsWithin, declared.span.MomentSpan.MomentSpan}
use Rattle.tap_rows.specs.declared.agency.reading.Reading.TheVariants as read

-- ---- faults

-- ---- one row more
pub parses_more : (choice : Choice) (head : List (List ℕ)) (rows : List (List (List ℕ)))
    (readings : List Reading) (row : List (List ℕ)) (reading : Reading)
    → AllZip (IsParseOf choice head) rows readings → IsParseOf choice head row reading
    → AllZip (IsParseOf choice head) (rows ++ row ∷ []) (readings ++ reading ∷ [])
parses_more choice head [] [] row reading each is = (is, tt)
parses_more choice head [] (first ∷ readings) row reading each is = absurd each
parses_more choice head (first ∷ rows) [] row reading each is = absurd each
parses_more choice head (first ∷ rows) (other ∷ readings) row reading each is =
    (each.0, parses_more choice head rows readings row reading each.1 is)

pub taps_more : (readings : List Reading) (reading : Reading)
    → taps_in (readings ++ reading ∷ []) ≡ taps_in readings ++ tap_of reading
taps_more readings reading =
    flat_map-append tap_of readings (reading ∷ [])
    ∙ ap (λ taps. taps_in readings ++ taps) (append-nil (tap_of reading))

pub left_out_more : (readings : List Reading) (reading : Reading)
    → left_out_in (readings ++ reading ∷ []) ≡ left_out_in readings + left_out_of reading
left_out_more readings reading = let e = sum_by-append left_out_of readings (reading ∷ []) in
    omega (arith, e)

refusals_from_more : (number : ℕ) (rows : List (List (List ℕ))) (readings : List Reading)
    (row : List (List ℕ)) (reading : Reading) → length readings ≡ length rows
    → refusals_from number (rows ++ row ∷ []) (readings ++ reading ∷ [])
    ≡ refusals_from number rows readings ++ refusal_of (number + length rows) row reading
refusals_from_more number [] [] row reading same =
    append-nil (refusal_of number row reading) ∙ ap (λ n. refusal_of n row reading) (omega arith)
refusals_from_more number [] (first ∷ readings) row reading same = absurd (omega (arith, same))
refusals_from_more number (first ∷ rows) [] row reading same = absurd (omega (arith, same))
refusals_from_more number (first ∷ rows) (other ∷ readings) row reading same =
    let n : ℕ = number + 1 in
    let rest = refusals_from_more n rows readings row reading (omega (arith, same)) in
    let position : n + length rows ≡ number + length (first ∷ rows) = omega arith in
    ap (λ rs. refusal_of number first other ++ rs)
    (rest ∙ ap (λ k. refusals_from n rows readings ++ refusal_of k row reading) position)
    ∙ sym (append_assoc (refusal_of number first other) (refusals_from n rows readings)
    (refusal_of (number + length (first ∷ rows)) row reading))

pub refusals_more : (rows : List (List (List ℕ))) (readings : List Reading) (row : List (List ℕ))
    (reading : Reading) (number : ℕ) → length readings ≡ length rows → number ≡ length rows + 2
    → refusals (rows ++ row ∷ []) (readings ++ reading ∷ [])
    ≡ refusals rows readings ++ refusal_of number row reading
refusals_more rows readings row reading number same is =
    refusals_from_more 2 rows readings row reading same
    ∙ ap (λ n. refusals rows readings ++ refusal_of n row reading) (omega (arith, is))

pub refusals_text_more : (separator : Separator) (head : List (List ℕ))
    (refused more : List Refusal)
    → refusals_text separator head (refused ++ more)
    ≡ refusals_text separator head refused ++ flat_map (refusal_text separator) more
refusals_text_more separator head refused more =
    ap (λ text. refusals_head separator head ++ text)
    (flat_map-append (refusal_text separator) refused more)
    ∙ sym (append_assoc (refusals_head separator head) (flat_map (refusal_text separator) refused)
    (flat_map (refusal_text separator) more))

-- ---- the moments
-- a span that is widened by a moment
abbrev pub IsWidened : Option MomentSpan → ℕ → MomentSpan → Type 0
IsWidened None moment new = (new.first ≡ moment) × (new.last ≡ moment)
IsWidened (Some old) moment new =
    (new.first ≡ min old.first moment) × (new.last ≡ max old.last moment)

at_end : (moments : List ℕ) (x y : ℕ) → y ≡ x → Contains (moments ++ x ∷ []) y
at_end moments x y same =
    subst (λ z. Contains (moments ++ x ∷ []) z) (sym same)
    (Contains-append_right moments (x ∷ []) x (0, omega arith, refl))

one_of : (moments : List ℕ) (a x y : ℕ) → Contains moments a → (y ≡ a) ⊎ (y ≡ x)
    → Contains (moments ++ x ∷ []) y
one_of moments a x y has (inl e) =
    subst (λ z. Contains (moments ++ x ∷ []) z) (sym e)
    (Contains-append_left moments (x ∷ []) a has)
one_of moments a x y has (inr e) = at_end moments x y e

all_within : (old new : MomentSpan) (moments : List ℕ) (x : ℕ) → new.first ≤ old.first
    → old.last ≤ new.last → new.first ≤ x → x ≤ new.last
    → AllByRecursion (IsWithin old) moments → AllByRecursion (IsWithin new) (moments ++ x ∷ [])
all_within old new [] x first last low high all = ((low, high), tt)
all_within old new (m ∷ moments) x first last low high all = (
  (omega (arith, all.0.0, first), omega (arith, all.0.1, last)),
  all_within old new moments x first last low high all.1,
)

pub wider : (moments : List ℕ) (x : ℕ) (old : Option MomentSpan) (new : MomentSpan)
    → IsSpan moments old → IsWidened old x new → IsSpan (moments ++ x ∷ []) (Some new)
wider moments x None new none is =
    subst (λ ms. IsSpan (ms ++ x ∷ []) (Some new)) (sym none) (
      at_end [] x new.first is.0,
      at_end [] x new.last is.1,
      ((omega (arith, is.0), omega (arith, is.1)), tt),
    )
wider moments x (Some old) new span is =
    let low = is.0 in
    let high = is.1 in
    let least : (new.first ≡ old.first) ⊎ (new.first ≡ x) = grind (arith, low) in
    let most : (new.last ≡ old.last) ⊎ (new.last ≡ x) = grind (arith, high) in (
      one_of moments old.first x new.first span.0 least,
      one_of moments old.last x new.last span.1 most,
      all_within old new moments x (omega (arith, low)) (omega (arith, high)) (omega (arith, low))
          (omega (arith, high)) span.2,
    )

-- ---- the summary
-- what one row more does to a summary
abbrev pub IsCounted : ℕ → Reading → Summary → Summary → Type 0
IsCounted number (read.Tap tap) old new =
    (new.taps ≡ old.taps + 1) × (new.left_out ≡ old.left_out) × (new.refused ≡ old.refused)
    × (new.first_refused ≡ old.first_refused)
    × ((moments : List ℕ) → IsSpan moments old.span → IsSpan (moments ++ tap.moment ∷ []) new.span)
IsCounted number read.LeftOut old new =
    (new.taps ≡ old.taps) × (new.left_out ≡ old.left_out + 1) × (new.refused ≡ old.refused)
    × (new.first_refused ≡ old.first_refused) × (new.span ≡ old.span)
IsCounted number (read.Refused reason) old new =
    (new.taps ≡ old.taps) × (new.left_out ≡ old.left_out) × (new.refused ≡ old.refused + 1)
    × (old.first_refused ≡ None → new.first_refused ≡ Some (number, reason))
    × (¬ (old.first_refused ≡ None) → new.first_refused ≡ old.first_refused) × (new.span ≡ old.span)

first_more : (refused more : List Refusal) (old new : Option (ℕ × Reason)) (number : ℕ)
    (reason : Reason) → old ≡ first_refusal refused → first_refusal more ≡ Some (number, reason)
    → (old ≡ None → new ≡ Some (number, reason)) → (¬ (old ≡ None) → new ≡ old)
    → new ≡ first_refusal (refused ++ more)
first_more [] more old new number reason is first none some = none is ∙ sym first
first_more (refusal ∷ refused) more old new number reason is first none some =
    some (λ e. absurd (cc (is, e))) ∙ is

pub summary_more : (rows : List (List (List ℕ))) (readings : List Reading) (row : List (List ℕ))
    (reading : Reading) (number : ℕ) (old new : Summary)
    → number ≡ length rows + 2 → length readings ≡ length rows → IsSummary rows readings old
    → IsCounted number reading old new
    → IsSummary (rows ++ row ∷ []) (readings ++ reading ∷ []) new
summary_more rows readings row (read.Tap tap) number old new position same is counted =
    let taps = taps_more readings (read.Tap tap) in
    let left = left_out_more readings (read.Tap tap) in
    let refused = refusals_more rows readings row (read.Tap tap) number same position
    ∙ append-nil (refusals rows readings) in
    let moments : map (λ t. t.moment) (taps_in (readings ++ read.Tap tap ∷ []))
    ≡ map (λ t. t.moment) (taps_in readings) ++ tap.moment ∷ [] =
    ap (map (λ t. t.moment)) taps ∙ map-append (λ t. t.moment) (taps_in readings) (tap ∷ []) in
    record {
      taps = omega
          (arith, counted.0, is.taps, ap length taps, length-append (taps_in readings) (tap ∷ []));
      left_out = omega (arith, counted.1, is.left_out, left);
      refused = omega (arith, counted.2, is.refused, ap length refused);
      sum = omega (arith, counted.0, counted.1, counted.2, is.sum, length-append rows (row ∷ []));
      first_refused = counted.3 ∙ is.first_refused ∙ ap first_refusal (sym refused);
      moments = subst (λ ms. IsSpan ms new.span) (sym moments)
          (counted.4 (map (λ t. t.moment) (taps_in readings)) is.moments);
    }
summary_more rows readings row read.LeftOut number old new position same is counted =
    let taps = taps_more readings read.LeftOut ∙ append-nil (taps_in readings) in
    let left = left_out_more readings read.LeftOut in
    let refused = refusals_more rows readings row read.LeftOut number same position
    ∙ append-nil (refusals rows readings) in
    record {
      taps = omega (arith, counted.0, is.taps, ap length taps);
      left_out = omega (arith, counted.1, is.left_out, left);
      refused = omega (arith, counted.2, is.refused, ap length refused);
      sum = omega (arith, counted.0, counted.1, counted.2, is.sum, length-append rows (row ∷ []));
      first_refused = counted.3 ∙ is.first_refused ∙ ap first_refusal (sym refused);
      moments = subst
          (λ s. IsSpan (map (λ t. t.moment) (taps_in (readings ++ read.LeftOut ∷ []))) s)
          (sym counted.4)
          (subst (λ ts. IsSpan (map (λ t. t.moment) ts) old.span) (sym taps) is.moments);
    }
summary_more rows readings row (read.Refused reason) number old new position same is counted =
    let taps = taps_more readings (read.Refused reason) ∙ append-nil (taps_in readings) in
    let left = left_out_more readings (read.Refused reason) in
    let one = refusal_of number row (read.Refused reason) in
    let refused = refusals_more rows readings row (read.Refused reason) number same position in
    record {
      taps = omega (arith, counted.0, is.taps, ap length taps);
      left_out = omega (arith, counted.1, is.left_out, left);
      refused = omega (
        arith,
        counted.2,
        is.refused,
        ap length refused,
        length-append (refusals rows readings) one,
      );
      sum = omega (arith, counted.0, counted.1, counted.2, is.sum, length-append rows (row ∷ []));
      first_refused = first_more (refusals rows readings) one old.first_refused new.first_refused
          number reason is.first_refused refl counted.3 counted.4 ∙ ap first_refusal (sym refused);
      moments = subst
          (λ s. IsSpan (map (λ t. t.moment) (taps_in (readings ++ read.Refused reason ∷ []))) s)
          (sym counted.5)
          (subst (λ ts. IsSpan (map (λ t. t.moment) ts) old.span) (sym taps) is.moments);
    }

-- the same, of a row whose reading is this
pub summary_of : (rows : List (List (List ℕ))) (readings : List Reading) (row : List (List ℕ))
    (now reading : Reading) (number : ℕ) (old new : Summary)
    → now ≡ reading → number ≡ length rows + 2 → length readings ≡ length rows
    → IsSummary rows readings old → IsCounted number reading old new
    → IsSummary (rows ++ row ∷ []) (readings ++ now ∷ []) new
summary_of rows readings row now reading number old new same position long is counted =
    subst (λ r. IsSummary (rows ++ row ∷ []) (readings ++ r ∷ []) new) (sym same)
    (summary_more rows readings row reading number old new position long is counted)
