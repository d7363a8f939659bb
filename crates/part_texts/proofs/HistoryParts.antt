-- Reports of parts of a history follow each other, and are merged into the report of the whole.
use Rattle.std.proofs.Common.{◌≡◌, ◌∙◌, ◌+◌, ◌<◌, ◌≤◌, ◌^◌, ◌||◌, ℕ, Bool, true, false, List, []}
use Rattle.std.proofs.Common.{◌∷◌, ◌++◌, length, map, Option, Some, None, Ok, refl, sym, ap, subst}
use Rattle.std.proofs.Common.{arith, append_assoc, append-nil, length-append, All}
use Rattle.histories.proofs.{IncreasingLemmas.increasing-is, SumsByToken.by_token_joined}
use Rattle.histories.proofs.SumsLemmas.{add_assoc, add_none, none_add, sums-append, sums-taps}
use Rattle.histories.specs.{Increasing.increasing, Sums.Sums, Sums.add_sums, Sums.sums}
use Rattle.histories.specs.{Sums.sums_of_replies, SumsByKey.sums_by_token}
use Rattle.histories.specs.SumsByKey.{sums_by_validator, token_of, tokens, validator_of, validators}
use Rattle.histories.specs.declared.entry.Entry.{Entry}
use Rattle.part_texts.proofs.KeySums.{all_added, tokens_add, validators_add}
use Rattle.part_texts.proofs.{ShownParts.none_left, ShownReports.reports_merge}
use Rattle.part_texts.proofs.Tables.{validators_added, within}
use Rattle.part_texts.specs.Fronts.{is_above, may_end, may_follow, no_sums}
use Rattle.part_texts.specs.HistoryParts.{AreRight, AreIncreasing, Fits, HistoryPart, added}
use Rattle.part_texts.specs.HistoryParts.{histories_of, numbers_of, report_of, whole_history}
use Rattle.part_texts.specs.{Merged.is_none_left, Merged.merge_of, Shown.part_text, Shown.sum_up}
use Rattle.part_texts.specs.inside.Shown.{are_joined, IsNextPart, IsRight, SoFar, adds_to, are_next}
use Rattle.part_texts.specs.inside.Shown.{are_posted_to, are_increasing, are_tokens_increasing}
use Rattle.part_texts.specs.inside.Shown.{last_of, nothing_so_far, tokens_of}
use Rattle.report_texts.specs.Report.{report}
use Rattle.sorted_taps.specs.Positions.{AreWhole, DoJoin, first_position}
use Rattle.sorted_taps.specs.declared.positions.{FileSpan.FileSpan, Position.Position}
use Rattle.std.proofs.lemmas.{Bool.Decides.nat_tests, Cmp.nat_cmp_total}
use Rattle.std.proofs.lemmas.List.{length-map, map-append, Elements.All-append, Elements.All-head}
use Rattle.std.proofs.lemmas.List.Elements.{All-nil, All-tail, All-weaker, All-from_recursion}
use Rattle.std.proofs.lemmas.{List.Elements.recursion_from_All, Map.Views.All-insert_key}
use Rattle.std.specs.{BTreeSet.insert_key, List.AllByRecursion, List.Sorted.IsStrictlySortedBy}
use Rattle.std.specs.Ordering.{is_lt, nat_cmp}
use Rattle.std.specs.{Prelude.nat_eq, Prelude.nat_lt, declared.cmp.Ordering.Ordering}
use Rattle.std.specs.declared.cmp.Ordering.TheVariants.{Less, Equal, Greater}
use Rattle.tap_views.proofs.Lists.{All-back, All-front, each-back, each-front}
use Rattle.tap_views.proofs.TokenLemmas.{token_cmp-total, token_cmp-ties}
use Rattle.tap_views.specs.{Token.token_cmp, TokenOrder.AreBelow}
use Rattle.tap_views.specs.declared.{token.Token.Token, upload_end.UploadEnd.TheVariants.Posted}

-- ---- sums that are added up
nothing_is : sums [] ≡ no_sums
unfolding sums_of_replies
nothing_is = refl

no_sums_add : (s : Sums) → add_sums no_sums s ≡ s
no_sums_add s = ap (λ n. add_sums n s) (sym nothing_is) ∙ none_add s

all_add : {K : Type 0} (s all : Sums) (list : List (K × Sums)) → all ≡ add_sums s (all_added list)
    → all.taps ≤ 2 ^ 95 → adds_to s list all
all_add s all [] is few = sym (is ∙ add_none s)
all_add s all (one ∷ more) is few =
    let next = add_sums s one.1 in
    let rest : all ≡ add_sums next (all_added more) =
    is ∙ sym (add_assoc s one.1 (all_added more)) in
    let taps : all.taps ≡ next.taps + (all_added more).taps = ap (λ (x : Sums). x.taps) rest in
    (next, within s one.1 next refl (omega (arith, taps, few)), all_add next all more rest few)

-- ---- keys that rise
increase_above : (f : ℕ → Sums) (last : Option ℕ) (keys : List ℕ)
    → AllByRecursion (λ k. is_above last k ≡ true) keys → IsStrictlySortedBy nat_cmp keys
    → are_increasing last (map (λ k. (k, f k)) keys)
unfolding IsStrictlySortedBy
increase_above f last [] above increases = tt
increase_above f last (k ∷ keys) above increases =
    (above.0, increase_above f (Some k) keys (all_above k keys increases.0) increases.1)
  where
    all_above : (k : ℕ) (keys : List ℕ) → AllByRecursion (λ z. nat_cmp k z ≡ Less) keys
        → AllByRecursion (λ z. nat_lt k z ≡ true) keys
    all_above k [] less = tt
    all_above k (z ∷ keys) less =
        (let l = less.0 in grind (arith, nat_tests, l), all_above k keys less.1)

none_above : (keys : List ℕ) → AllByRecursion (λ k. is_above None k ≡ true) keys
none_above [] = tt
none_above (k ∷ keys) = (refl, none_above keys)

pub validators_increase : (history : List Entry) → are_increasing None (sums_by_validator history)
unfolding sums_by_validator validators
validators_increase history =
    increase_above _ None (increasing nat_cmp (map validator_of history))
    (none_above (increasing nat_cmp (map validator_of history)))
    (increasing-is nat_cmp_total (λ a b tied. grind (arith, nat_tests, tied))
    (map validator_of history)).increases

-- the last token is below these
abbrev pub LastIsBelow : Option Token → List Token → Type 0
LastIsBelow None tokens = Unit {0}
LastIsBelow (Some last) tokens = AllByRecursion (λ t. token_cmp last t ≡ Less) tokens

tokens_above : (f : Token → Sums) (last : Option Token) (keys : List Token) → LastIsBelow last keys
    → IsStrictlySortedBy token_cmp keys → are_tokens_increasing last (map (λ t. (t, f t)) keys)
unfolding IsStrictlySortedBy
tokens_above f last [] below increases = tt
tokens_above f last (k ∷ keys) below increases =
    (first_above last below, tokens_above f (Some k) keys increases.0 increases.1)
  where
    first_above : (last : Option Token) → LastIsBelow last (k ∷ keys) → may_follow true last k ≡ true
    first_above None below = refl
    first_above (Some token) below = ap is_lt below.0

-- what holds of all keys holds of them in their order
pub all_ascending : {K : Type 0} (cmp : K → K → Ordering) (P : K → Type 0) (keys : List K)
    → All P keys
    → All P (increasing cmp keys)
unfolding increasing
all_ascending cmp P [] all = All-nil P
all_ascending cmp P (key ∷ keys) all =
    All-insert_key cmp key P (increasing cmp keys)
    (all_ascending cmp P keys (All-tail P key keys all))
    (All-head P key keys all)

pub below_front : (last : Option Token) (xs ys : List Token) → LastIsBelow last (xs ++ ys)
    → LastIsBelow last xs × LastIsBelow last ys
below_front None xs ys below = (tt, tt)
below_front (Some last) xs ys below = (
  each-front (λ t. token_cmp last t ≡ Less) xs ys below,
  each-back (λ t. token_cmp last t ≡ Less) xs ys below,
)

-- what is below all tokens is below them in their order
pub below_increasing : (last : Option Token) (keys : List Token) → LastIsBelow last keys
    → LastIsBelow last (increasing token_cmp keys)
below_increasing None keys below = tt
below_increasing (Some last) keys below =
    recursion_from_All (λ t. token_cmp last t ≡ Less) (increasing token_cmp keys)
    (all_ascending token_cmp (λ t. token_cmp last t ≡ Less) keys
    (All-from_recursion (λ t. token_cmp last t ≡ Less) keys below))

pub tokens_increase : (last : Option Token) (history : List Entry)
    → LastIsBelow last (map token_of history) → are_tokens_increasing last (sums_by_token history)
unfolding sums_by_token tokens
tokens_increase last history below =
    tokens_above _ last (increasing token_cmp (map token_of history))
    (below_increasing last (map token_of history) below)
    (increasing-is token_cmp-total token_cmp-ties (map token_of history)).increases

last_below : (f : Token → Sums) (last : Option Token) (keys later : List Token)
    → LastIsBelow last later → All (λ t. All (λ u. token_cmp t u ≡ Less) later) keys
    → LastIsBelow (last_of last (map (λ t. (t, f t)) keys)) later
last_below f last [] later below all = below
last_below f last (k ∷ keys) later below all =
    last_below f (Some k) keys later
    (recursion_from_All (λ u. token_cmp k u ≡ Less) later
    (All-head (λ t. All (λ u. token_cmp t u ≡ Less) later) k keys all))
    (All-tail (λ t. All (λ u. token_cmp t u ≡ Less) later) k keys all)

pub next_last : (last : Option Token) (history : List Entry) (later : List Token)
    → LastIsBelow last later → AreBelow (map token_of history) later
    → LastIsBelow (last_of last (sums_by_token history)) later
unfolding sums_by_token tokens
next_last last history later below increase =
    last_below _ last (increasing token_cmp (map token_of history)) later below
    (all_ascending token_cmp (λ t. All (λ u. token_cmp t u ≡ Less) later) (map token_of history)
    increase)

-- ---- how many keys there are
insert_few : {K : Type 0} (cmp : K → K → Ordering) (keys : List K) (key : K)
    → length (insert_key cmp keys key) ≤ length keys + 1
insert_few cmp [] key = omega arith
insert_few cmp (x ∷ keys) key = by_order (cmp key x) refl (insert_few cmp keys key)
  where
    by_order : (order : Ordering) → cmp key x ≡ order
        → length (insert_key cmp keys key) ≤ length keys + 1
        → length (insert_key cmp (x ∷ keys) key) ≤ length (x ∷ keys) + 1
    by_order Less is rest = rw is (omega arith)
    by_order Equal is rest = rw is (omega arith)
    by_order Greater is rest = rw is (omega (arith, rest))

pub increasing_few : {K : Type 0} (cmp : K → K → Ordering) (keys : List K)
    → length (increasing cmp keys) ≤ length keys
unfolding increasing
increasing_few cmp [] = omega arith
increasing_few cmp (key ∷ keys) =
    omega (arith, increasing_few cmp keys, insert_few cmp (increasing cmp keys) key)

keys_few : {K : Type 0} (cmp : K → K → Ordering) (key : Entry → K) (f : K → Sums) (history : List Entry)
    → length {A = K × Sums} (map (λ k. (k, f k)) (increasing cmp (map key history))) ≤ length history
keys_few {K = K} cmp key f history =
    omega (
      arith,
      length-map {B = K × Sums} (increasing cmp (map key history)) (λ k. (k, f k)),
      increasing_few cmp (map key history),
      length-map history key,
    )

pub tokens_few : (history : List Entry) → length (sums_by_token history) ≤ length history
unfolding sums_by_token tokens
tokens_few history = keys_few token_cmp token_of _ history

validators_few : (history : List Entry) → length (sums_by_validator history) ≤ length history
unfolding sums_by_validator validators
validators_few history = keys_few nat_cmp validator_of _ history

-- ---- spans
abbrev pub from_ends : List FileSpan → List (Option Position)
from_ends spans = map (λ (span : FileSpan). Some span.from) spans

abbrev pub to_ends : List FileSpan → List (Option Position)
to_ends spans = map (λ (span : FileSpan). span.to) spans

abbrev pub MayAllEnd : Bool → List FileSpan → Type 0
MayAllEnd last spans = AllByRecursion (λ span. may_end last span.to ≡ true) spans

pub joined_next : (last : Bool) (news : List (Option Position)) (spans : List FileSpan)
    → MayAllEnd last spans
    → are_joined false last (from_ends spans ++ news) spans (news ++ to_ends spans)
joined_next last news [] ends = sym (append-nil news)
joined_next last news (span ∷ spans) ends = (
  from_ends spans ++ news,
  refl,
  ends.0,
  simp append_assoc (simp append_assoc at (joined_next last (news ++ span.to ∷ []) spans ends.1)),
)

pub joined_first : (last : Bool) (news : List (Option Position)) (spans : List FileSpan)
    → map (λ (span : FileSpan). Some first_position) spans ≡ from_ends spans → MayAllEnd last spans
    → are_joined true last news spans (news ++ to_ends spans)
joined_first last news [] from ends = sym (append-nil news)
joined_first last news (span ∷ spans) from ends =
    let here : first_position ≡ span.from = cc in
    let more : map (λ (span : FileSpan). Some first_position) spans ≡ from_ends spans = cc in (
      news,
      ap (λ (p : Position). Some (p, news)) here,
      ends.0,
      simp append_assoc at (joined_first last (news ++ span.to ∷ []) spans more ends.1),
    )

may_all : (spans : List FileSpan) → MayAllEnd false spans
may_all [] = tt
may_all (span ∷ spans) = (refl, may_all spans)

may_last : (spans : List FileSpan) → All (λ end. end ≡ None) (to_ends spans) → MayAllEnd true spans
may_last [] all = tt
may_last (span ∷ spans) all = (
  ap (may_end true) (All-head (λ end. end ≡ None) span.to (to_ends spans) all),
  may_last spans (All-tail (λ end. end ≡ None) span.to (to_ends spans) all),
)

pub may_end_all : (spans : List FileSpan) (later : List (List FileSpan))
    → DoJoin (to_ends spans) later
    → MayAllEnd (is_none_left later) spans
may_end_all spans [] all = may_last spans all
may_end_all spans (next ∷ later) join = may_all spans

-- ---- taps
posted_first : (news ns : List ℕ) (posted : ℕ) → posted + sum_up ns < 2 ^ 64
    → are_posted_to true news posted ns (news ++ ns) (posted + sum_up ns)
posted_first news [] posted few =
    (sym (append-nil news), (let e : posted ≡ posted + 0 = omega arith in e))
posted_first news (n ∷ ns) posted few =
    let sum : (posted + n) + sum_up ns ≡ posted + (n + sum_up ns) = omega arith in
    let none : 0 + n ≡ n = omega arith in (
      0,
      news,
      refl,
      omega (arith, few),
      omega (arith, few),
      omega (arith, few),
      rw none (simp (append_assoc, sum) at
          (posted_first (news ++ n ∷ []) ns (posted + n) (omega (arith, few)))),
    )

posted_next : (olds news ns : List ℕ) (posted : ℕ) → length olds ≡ length ns
    → posted + sum_up ns < 2 ^ 64 → sum_up olds + sum_up ns < 2 ^ 64
    → are_posted_to false (olds ++ news) posted ns (news ++ added olds ns) (posted + sum_up ns)
posted_next [] news [] posted same few all =
    (sym (append-nil news), (let e : posted ≡ posted + 0 = omega arith in e))
posted_next [] news (n ∷ ns) posted same few all = absurd (omega (arith, same))
posted_next (o ∷ olds) news [] posted same few all = absurd (omega (arith, same))
posted_next (o ∷ olds) news (n ∷ ns) posted same few all =
    let sum : (posted + n) + sum_up ns ≡ posted + (n + sum_up ns) = omega arith in (
      o,
      olds ++ news,
      refl,
      omega (arith, few),
      omega (arith, all),
      omega (arith, few),
      simp append_assoc (simp (append_assoc, sum) at (posted_next olds (news ++ (o + n) ∷ []) ns
          (posted + n) (omega (arith, same)) (omega (arith, few)) (omega (arith, all)))),
    )

added_sum : (xs ys : List ℕ) → sum_up (added xs ys) ≡ sum_up xs + sum_up ys
added_sum [] ys = omega arith
added_sum (x ∷ xs) [] = omega arith
added_sum (x ∷ xs) (y ∷ ys) = let rest = added_sum xs ys in omega (arith, rest)

added_length : (xs ys : List ℕ) → length xs ≡ length ys → length (added xs ys) ≡ length ys
added_length [] ys same = refl
added_length (x ∷ xs) [] same = absurd (omega (arith, same))
added_length (x ∷ xs) (y ∷ ys) same =
    let rest = added_length xs ys (omega (arith, same)) in omega (arith, rest)

three : (a b c : ℕ) → (a + b) + c ≡ a + (b + c)
three a b c = omega arith

added_assoc : (xs ys zs : List ℕ) → added (added xs ys) zs ≡ added xs (added ys zs)
added_assoc [] ys zs = refl
added_assoc (x ∷ xs) [] zs = refl
added_assoc (x ∷ xs) (y ∷ ys) [] = refl
added_assoc (x ∷ xs) (y ∷ ys) (z ∷ zs) =
    ap (λ (n : ℕ). n ∷ added (added xs ys) zs) (three x y z)
    ∙ ap (λ (ns : List ℕ). (x + (y + z)) ∷ ns) (added_assoc xs ys zs)

-- ---- the parts so far
-- these are the parts of this history so far, which has these taps of each file
abbrev so_far : List (Option Position) → List ℕ → List Entry → Option Token → SoFar
so_far ends taps history last = record {
  ends = ends;
  taps = taps;
  totals = sums history;
  validators = sums_by_validator history;
  tokens = length (sums_by_token history);
  last = last;
}

part_right : (p : HistoryPart) → Fits p → length p.history < 2 ^ 64 → IsRight (report_of p)
part_right p fits few =
    let taps : (sums p.history).taps ≡ length p.history = sums-taps p.history in
    let small : (sums p.history).taps ≤ 2 ^ 95 = omega (arith, taps, few) in
    let number = tokens_few p.history in
    record {
      files = fits.files;
      spans = fits.spans;
      uploads = fits.uploads;
      posted = fits.posted ∙ sym taps;
      totals = fits.totals;
      validators_number = (let v = validators_few p.history in omega (arith, v, few));
      validators = fits.validators;
      validators_increase = validators_increase p.history;
      validators_add = all_add no_sums (sums p.history) (sums_by_validator p.history)
          (validators_add p.history ∙ sym (no_sums_add (all_added (sums_by_validator p.history))))
          small;
      tokens_number = omega (arith, number, few);
      tokens = fits.tokens;
      tokens_add = all_add no_sums (sums p.history) (sums_by_token p.history)
          (tokens_add p.history ∙ sym (no_sums_add (all_added (sums_by_token p.history)))) small;
    }

-- ---- all parts
below_both : (xs ys zs : List Token) → AreBelow xs (ys ++ zs) → AreBelow xs ys × AreBelow xs zs
below_both xs ys zs below = (
  All-weaker (λ t. All (λ u. token_cmp t u ≡ Less) (ys ++ zs)) (λ t. All (λ u. token_cmp t u ≡ Less) ys)
      (λ t all. All-front (λ u. token_cmp t u ≡ Less) ys zs all) xs below,
  All-weaker (λ t. All (λ u. token_cmp t u ≡ Less) (ys ++ zs)) (λ t. All (λ u. token_cmp t u ≡ Less) zs)
      (λ t all. All-back (λ u. token_cmp t u ≡ Less) ys zs all) xs below,
)

abbrev pub spans_of : List HistoryPart → List (List FileSpan)
spans_of parts = map (λ (p : HistoryPart). p.spans) parts

-- what the parts so far are, and that the others follow
record GoesOn (files : ℕ) (taps : List ℕ) (history : List Entry) (last : Option Token)
    (parts : List HistoryPart) : Type 0 where
  number : AllByRecursion (λ p. length p.spans ≡ files) parts
  posted : sum_up taps ≡ length history
  increase : AreIncreasing (histories_of parts)
  above : AreBelow (map token_of history) (map token_of (whole_history parts))
  below : LastIsBelow last (map token_of (whole_history parts))
  fit : AllByRecursion Fits parts
  few : length (history ++ whole_history parts) < 2 ^ 64

pub tokens_both : (xs ys : List Entry)
    → map token_of (xs ++ ys) ≡ map token_of xs ++ map token_of ys
tokens_both xs ys = map-append token_of xs ys

-- the first of the parts that follow
module _ {files : ℕ} {taps : List ℕ} {history : List Entry} {last : Option Token} {p : HistoryPart}
    {ps : List HistoryPart} (goes : GoesOn files taps history last (p ∷ ps)) where
  belows : LastIsBelow last (map token_of p.history)
      × LastIsBelow last (map token_of (whole_history ps))
  belows = below_front last (map token_of p.history) (map token_of (whole_history ps))
      (subst (LastIsBelow last) (tokens_both p.history (whole_history ps)) goes.below)

  aboves : AreBelow (map token_of history) (map token_of p.history)
      × AreBelow (map token_of history) (map token_of (whole_history ps))
  aboves = below_both (map token_of history) (map token_of p.history)
      (map token_of (whole_history ps)) (subst (AreBelow (map token_of history))
      (tokens_both p.history (whole_history ps)) goes.above)

  few_here : length (history ++ p.history) < 2 ^ 64
  few_here =
      let one = length-append history p.history in
      let two = length-append history (p.history ++ whole_history ps) in
      let three = length-append p.history (whole_history ps) in
      let few = goes.few in
      omega (arith, one, two, three, few)

  sums_fit : sum_up taps + sum_up p.taps < 2 ^ 64
  sums_fit =
      let was = goes.posted in
      let now = goes.fit.0.posted in
      let few = few_here in
      let one = length-append history p.history in
      omega (arith, was, now, few, one)

  -- behind that part
  goes_further : GoesOn files (added taps p.taps) (history ++ p.history)
      (last_of last (sums_by_token p.history)) ps
  goes_further = record {
    number = goes.number.1;
    posted = added_sum taps p.taps ∙ ap (λ n. n + sum_up p.taps) goes.posted
        ∙ ap (λ n. length history + n) goes.fit.0.posted ∙ sym (length-append history p.history);
    increase = goes.increase.1;
    above = subst (λ (ts : List Token). AreBelow ts (map token_of (whole_history ps)))
        (sym (tokens_both history p.history))
        (All-append (λ t. All (λ u. token_cmp t u ≡ Less) (map token_of (whole_history ps)))
        (map token_of history) (map token_of p.history) aboves.1 goes.increase.0);
    below = next_last last p.history (map token_of (whole_history ps)) belows.1 goes.increase.0;
    fit = goes.fit.1;
    few = subst (λ n. n < 2 ^ 64)
        (sym (ap length (append_assoc history p.history (whole_history ps)))) goes.few;
  }

  one_part : (first final : Bool) (ends : List (Option Position))
      → (first || nat_eq (length p.spans) (length ends)) ≡ true
      → are_joined first final ends p.spans (to_ends p.spans)
      → are_posted_to first taps 0 p.taps (added taps p.taps) (0 + sum_up p.taps)
      → IsNextPart first final (so_far ends taps history last) (report_of p)
      (so_far (to_ends p.spans) (added taps p.taps) (history ++ p.history)
      (last_of last (sums_by_token p.history)))
  one_part first final ends files joined posted =
      let all = length-append history p.history in
      let few = few_here in
      let summed : (sums (history ++ p.history)).taps ≡ length (history ++ p.history) =
      sums-taps (history ++ p.history) in
      let before = tokens_few history in
      let here = tokens_few p.history in
      let tokens : length (sums_by_token (history ++ p.history))
      ≡ length (sums_by_token history) + length (sums_by_token p.history) =
      ap length (by_token_joined history p.history aboves.0)
      ∙ length-append (sums_by_token history) (sums_by_token p.history) in
      let sum : 0 + sum_up p.taps ≡ (sums p.history).taps =
      (let e : 0 + sum_up p.taps ≡ sum_up p.taps = omega arith in e) ∙ goes.fit.0.posted
      ∙ sym (sums-taps p.history) in
      record {
        right = part_right p goes.fit.0 (omega (arith, all, few));
        files = files;
        joined = joined;
        posted = subst (λ n. are_posted_to first taps 0 p.taps (added taps p.taps) n) sum posted;
        totals = within (sums history) (sums p.history) (sums (history ++ p.history))
            (sums-append history p.history) (omega (arith, summed, few));
        validators = validators_added history p.history (omega (arith, few));
        number = omega (arith, all, few, before, here);
        tokens = tokens;
        increase = tokens_increase last p.history belows.0;
        last_is = refl;
      }

pub ends_length : (spans : List FileSpan) → length (to_ends spans) ≡ length spans
ends_length spans = length-map spans (λ (span : FileSpan). span.to)

-- there is none before the first part, and then one of each file
abbrev pub OfEach : {A : Type 0} → Bool → ℕ → List A → Type 0
OfEach true files list = list ≡ []
OfEach false files list = length list ≡ files

abbrev pub Join : Bool → List (Option Position) → List (List FileSpan) → Type 0
Join true ends parts = AreWhole parts
Join false ends parts = DoJoin ends parts

-- the spans of a part join those before it
pub part_joins : (first : Bool) (files : ℕ) (ends : List (Option Position)) (spans : List FileSpan)
    (later : List (List FileSpan)) → OfEach first files ends → length spans ≡ files
    → Join first ends (spans ∷ later) → ((first || nat_eq (length spans) (length ends)) ≡ true)
    × are_joined first (is_none_left later) ends spans (to_ends spans) × DoJoin (to_ends spans) later
part_joins true files ends spans later none number (from, join) = (
  refl,
  rw none (joined_first (is_none_left later) [] spans from (may_end_all spans later join)),
  join,
)
part_joins false files ends spans later same number (from, join) = (
  grind (arith, nat_tests, same, number),
  rw (from, ← (append-nil (from_ends spans)))
      (joined_next (is_none_left later) [] spans (may_end_all spans later join)),
  join,
)

-- its taps are added to those before it
taps_added : (first : Bool) (files : ℕ) (taps ns : List ℕ) → OfEach first files taps
    → length ns ≡ files → sum_up taps + sum_up ns < 2 ^ 64
    → are_posted_to first taps 0 ns (added taps ns) (0 + sum_up ns) × (length (added taps ns) ≡ files)
taps_added true files taps ns none number fit = (
  rw none (posted_first [] ns 0 (omega (arith, fit))),
  rw none number,
)
taps_added false files taps ns same number fit = (
  rw append-nil at (posted_next taps [] ns 0 (same ∙ sym number) (omega (arith, fit)) fit),
  added_length taps ns (same ∙ sym number) ∙ number,
)

follow : (first : Bool) (files : ℕ) (ends : List (Option Position)) (taps : List ℕ)
    (history : List Entry) (last : Option Token) (parts : List HistoryPart) → OfEach first files ends
    → OfEach first files taps → Join first ends (spans_of parts)
    → GoesOn files taps history last parts
    → (all_ends : List (Option Position)) × (all_last : Option Token)
    × are_next IsNextPart first (so_far ends taps history last) (map report_of parts)
    (so_far all_ends (added taps (numbers_of parts)) (history ++ whole_history parts) all_last)
follow first files ends taps history last [] number uploads join goes = (
  ends,
  last,
  ap (λ ts. so_far ends ts history last) (sym (none_more taps))
      ∙ ap (λ h. so_far ends (added taps []) h last) (sym (append-nil history)),
)
  where
    none_more : (ns : List ℕ) → added ns [] ≡ ns
    none_more [] = refl
    none_more (n ∷ ns) = refl
follow first files ends taps history last (p ∷ ps) number uploads join goes =
    let (same, joined, later) =
    part_joins first files ends p.spans (spans_of ps) number goes.number.0 join in
    let (posted, size) = taps_added first files taps p.taps uploads
    (goes.fit.0.uploads ∙ goes.number.0) (sums_fit goes) in
    let none = none_left (λ (part : HistoryPart). part.spans) ps ∙ sym (none_left report_of ps) in
    let part = one_part goes first (is_none_left (map report_of ps)) ends same
    (subst (λ b. are_joined first b ends p.spans (to_ends p.spans)) none joined) posted in
    let (all_ends, all_last, more) = follow false files (to_ends p.spans) (added taps p.taps)
    (history ++ p.history) (last_of last (sums_by_token p.history)) ps
    (ends_length p.spans ∙ goes.number.0) size later (goes_further goes) in (
      all_ends,
      all_last,
      (
        so_far (to_ends p.spans) (added taps p.taps) (history ++ p.history)
            (last_of last (sums_by_token p.history)),
        part,
        rw (added_assoc taps p.taps (numbers_of ps), append_assoc history p.history (whole_history ps))
            at more,
      ),
    )

starts_as : nothing_so_far ≡ so_far [] [] [] None
unfolding sums_of_replies sums_by_validator validators sums_by_token tokens increasing
starts_as = refl

none_of_none : [] ≡ sums_by_token []
unfolding sums_by_token tokens increasing
none_of_none = refl

whole_tokens : (parts : List HistoryPart) → AreIncreasing (histories_of parts)
    → tokens_of (map report_of parts) ≡ sums_by_token (whole_history parts)
whole_tokens [] increase = none_of_none
whole_tokens (p ∷ ps) increase =
    ap (λ (ts : List (Token × Sums)). sums_by_token p.history ++ ts) (whole_tokens ps increase.1)
    ∙ sym (by_token_joined p.history (whole_history ps) increase.0)

-- THE law: reports of parts of a history are merged into the report of the whole history
pub histories_merge : (files : ℕ) (p : HistoryPart) (ps : List HistoryPart)
    → AreRight files (p ∷ ps)
    → merge_of (map part_text (map report_of (p ∷ ps)))
    ≡ Ok (report (map Posted (numbers_of (p ∷ ps))) (sums (whole_history (p ∷ ps)))
    (sums_by_validator (whole_history (p ∷ ps))) (sums_by_token (whole_history (p ∷ ps))))
histories_merge files p ps right =
    let (all_ends, all_last, are) = follow true files [] [] [] None (p ∷ ps) refl refl right.whole
    (record {
      number = right.number;
      posted = refl;
      increase = right.increase;
      above = All-nil (λ t. All (λ u. token_cmp t u ≡ Less) (map token_of (whole_history (p ∷ ps))));
      below = tt;
      fit = right.fit;
      few = right.few;
    }) in
    let all = so_far all_ends (numbers_of (p ∷ ps)) (whole_history (p ∷ ps)) all_last in
    reports_merge (report_of p) (map report_of ps) all
    (subst (λ s. are_next IsNextPart true s (map report_of (p ∷ ps)) all) (sym starts_as) are)
    ∙ ap (λ (ts : List (Token × Sums)). Ok (report (map Posted (numbers_of (p ∷ ps)))
    (sums (whole_history (p ∷ ps))) (sums_by_validator (whole_history (p ∷ ps))) ts))
    (whole_tokens (p ∷ ps) right.increase)
