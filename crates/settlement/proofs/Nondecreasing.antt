-- Taps in canonical order, whose tokens do not fall.
use Rattle.std.proofs.Common.{◌≡◌, ℕ, ◌+◌, ◌<◌, false, List, [], ◌∷◌, ◌++◌, length, take, drop}
use Rattle.std.proofs.Common.{get_or, refl, sym, ap, subst, ◌∙◌, All, arith, add-one, drop-cons}
use Rattle.settlement.proofs.Placed.{NotLess, Pairs, sorted_pairs}
use Rattle.settlement.specs.Nondecreasing.{TapsNondecreasingFrom, last_token}
use Rattle.settlement.specs.Posted.{HasName, token_of_tap}
use Rattle.std.proofs.lemmas.List.{take-append-drop, Elements.All-head, Elements.All-tail}
use Rattle.std.specs.{Cmp.ranks, Cmp.Lexicographic.slice_cmp, List.Sorted.IsSorted}
use Rattle.std.specs.Ordering.{MatchOrdering, is_lt, nat_cmp, ordering_then}
use Rattle.std.specs.declared.cmp.Ordering.{Ordering}
use Rattle.std.specs.declared.cmp.Ordering.TheVariants.{Less, Equal, Greater}
use Rattle.tap_parts.specs.Canonical.{tap_cmp}
use Rattle.tap_views.proofs.{Orderings.first_not_less, TokenBytes.token-order}
use Rattle.tap_views.specs.{Token.token_cmp, TokenOrder.IsUpTo}
use Rattle.tap_views.specs.declared.{encoder.TapFields.TapFields, token.Token.Token}

pub nondecreasing_append : (token : Token) (xs ys : List TapFields)
    → TapsNondecreasingFrom token (xs ++ ys)
    → TapsNondecreasingFrom token xs × TapsNondecreasingFrom (last_token token xs) ys
nondecreasing_append token [] ys nondecreasing = (tt, nondecreasing)
nondecreasing_append token (x ∷ xs) ys (up, nondecreasing) =
    let both = nondecreasing_append (token_of_tap x) xs ys nondecreasing in ((up, both.0), both.1)

-- the last token of two lists of taps
pub last_append : (token : Token) (xs ys : List TapFields)
    → last_token token (xs ++ ys) ≡ last_token (last_token token xs) ys
last_append token [] ys = refl
last_append token (x ∷ xs) ys = last_append (token_of_tap x) xs ys

-- a tap is not below the token of the taps before it
pub nondecreasing_here : (from token : Token) (taps : List TapFields) (position : ℕ)
    (other : TapFields)
    → position < length taps → TapsNondecreasingFrom from taps
    → token ≡ last_token from (take position taps)
    → IsUpTo token (token_of_tap (get_or taps position other))
nondecreasing_here from token taps position other within nondecreasing is =
    let parts : take position taps ++ get_or taps position other ∷ drop (position + 1) taps ≡ taps =
    ap (λ (ts : List TapFields). take position taps ++ ts)
    (sym (rw (add-one) (drop-cons taps position other within))) ∙ take-append-drop position taps in
    subst (λ (t : Token). IsUpTo t (token_of_tap (get_or taps position other))) (sym is)
    (nondecreasing_append from (take position taps)
    (get_or taps position other ∷ drop (position + 1) taps)
    (subst (λ (ts : List TapFields). TapsNondecreasingFrom from ts) (sym parts) nondecreasing)).1.0

up_to : (a b : TapFields) → HasName a → HasName b → NotLess a b
    → IsUpTo (token_of_tap a) (token_of_tap b)
up_to a b of_a of_b not =
    let bytes : token_cmp (token_of_tap b) (token_of_tap a) ≡ slice_cmp nat_cmp b.token a.token =
    token-order (token_of_tap b) (token_of_tap a) of_b.fits of_a.fits
    ∙ (λ i. slice_cmp nat_cmp (of_b.named i) (of_a.named i)) in
    ap is_lt bytes ∙ first_not_less (slice_cmp nat_cmp b.token a.token) _ not

nondecreasing_from : (a : TapFields) (taps : List TapFields) → HasName a → All HasName taps
    → All (NotLess a) taps → Pairs NotLess taps → TapsNondecreasingFrom (token_of_tap a) taps
nondecreasing_from a [] of_a names above pairs = tt
nondecreasing_from a (b ∷ taps) of_a names above pairs =
    let of_b = All-head HasName b taps names in (
      up_to a b of_a of_b (All-head (NotLess a) b taps above),
      nondecreasing_from b taps of_b (All-tail HasName b taps names) pairs.0 pairs.1,
    )

-- no number is below zero
not_below : (n : ℕ) (o : Ordering) → MatchOrdering o (n < 0) (n ≡ 0) (0 < n) → is_lt o ≡ false
not_below n Less below = absurd (omega (arith, below))
not_below n Equal same = refl
not_below n Greater above = refl

then_not : (one other : Ordering) → is_lt one ≡ false → is_lt other ≡ false
    → is_lt (ordering_then one other) ≡ false
then_not Less other a b = a
then_not Equal other a b = b
then_not Greater other a b = refl

not_below_zero : (high low : ℕ) → is_lt (ordering_then (nat_cmp high 0) (nat_cmp low 0)) ≡ false
not_below_zero high low =
    then_not (nat_cmp high 0) (nat_cmp low 0) (not_below high (nat_cmp high 0) (ranks high 0))
    (not_below low (nat_cmp low 0) (ranks low 0))

-- the least token is not above another
pub least_up : (least token : Token) → least ≡ record { high = 0; low = 0 } → IsUpTo least token
least_up least token is =
    ap (λ (t : Token). is_lt (token_cmp token t)) is ∙ not_below_zero token.high token.low

-- taps in canonical order do not fall from the least token
pub canonical_nondecreasing : (least : Token) (taps : List TapFields)
    → least ≡ record { high = 0; low = 0 }
    → All HasName taps → IsSorted tap_cmp taps → TapsNondecreasingFrom least taps
canonical_nondecreasing least [] is names sorted = tt
canonical_nondecreasing least (a ∷ taps) is names sorted =
    let pairs = sorted_pairs (a ∷ taps) sorted in (
      least_up least (token_of_tap a) is,
      nondecreasing_from a taps (All-head HasName a taps names) (All-tail HasName a taps names)
          pairs.0
          pairs.1,
    )
