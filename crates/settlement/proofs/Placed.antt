-- Settled files: whose taps are where, and in which order.
use Rattle.std.proofs.Common.{◌≡◌, suc, ◌<◌, ◌≤◌, ◌==◌, List, ◌∷◌, ◌++◌, [], true, false, cond, sym}
use Rattle.std.proofs.Common.{ap, ◌∙◌, arith, All, inl, inr}
use Rattle.settlement.proofs.Unique.{tail}
use Rattle.std.proofs.lemmas.{Bool.cases_lt, Bool.lt-ltb, Cmp.nat_list_cmp_total}
use Rattle.std.proofs.lemmas.List.Elements.{All-append, All-head, All-tail, All-weaker}
use Rattle.std.proofs.lemmas.List.Sorted.{ranks_by, sorted_far}
use Rattle.std.specs.{Cmp.tied_itself, Cmp.Lexicographic.slice_cmp, List.Sorted.IsSorted}
use Rattle.std.specs.{Ordering.nat_cmp, Ordering.is_lt, Ordering.ordering_then, Prelude.◌⊎◌}
use Rattle.std.specs.declared.cmp.Ordering.TheVariants.{Less, Equal, Greater}
use Rattle.tap_parts.proofs.Total.{tap_cmp_total, tap_cmp_exact}
use Rattle.tap_parts.specs.Canonical.{tap_cmp}
use Rattle.tap_views.specs.declared.encoder.TapFields.{TapFields}

-- R holds of each element and each later one
abbrev pub Pairs : {X : Type 0} → (X → X → Type 0) → List X → Type 0
Pairs R [] = Unit {0}
Pairs R (x ∷ xs) = All (R x) xs × Pairs R xs

-- the second is not before the first
abbrev pub NotLess : TapFields → TapFields → Type 0
NotLess a b = is_lt (tap_cmp b a) ≡ false

-- of one token, the second is not before the first
abbrev pub Ascends : TapFields → TapFields → Type 0
Ascends a b = a.token ≡ b.token → NotLess a b

-- of one token, a tap that is not less is not earlier
pub no_earlier : (a b : TapFields) → NotLess a b → a.token ≡ b.token → a.moment ≤ b.moment
no_earlier a b not same = by_order (cases_lt b.moment a.moment)
  where
    by_order : (b.moment < a.moment) ⊎ (a.moment ≤ b.moment) → a.moment ≤ b.moment
    by_order (inr above) = above
    by_order (inl below) =
        let validators = nat_cmp b.validator a.validator in
        let tokens : slice_cmp nat_cmp b.token a.token ≡ Equal =
        ap (slice_cmp nat_cmp b.token) same ∙ tied_itself nat_list_cmp_total b.token in
        let less : nat_cmp b.moment a.moment ≡ Less =
        ap (λ t. cond t Less (cond (b.moment == a.moment) Equal Greater))
        (lt-ltb b.moment a.moment below) in
        let whole : tap_cmp b a ≡ Less =
        ap (λ r. ordering_then r (ordering_then (nat_cmp b.moment a.moment) validators)) tokens
        ∙ ap (λ r. ordering_then r validators) less in
        absurd (let t : true ≡ false = sym (ap is_lt whole) ∙ not in cc)

-- no tap of a sorted list is less than one before it
pub sorted_pairs : (xs : List TapFields) → IsSorted tap_cmp xs → Pairs NotLess xs
sorted_pairs [] up = tt
sorted_pairs (x ∷ xs) up = (
  (λ j d h.
      sorted_far (λ a b. is_lt (tap_cmp a b)) (ranks_by tap_cmp_total (λ (t : TapFields). t)) (x
      ∷ xs) up 0 (suc j) d (omega arith) (omega (arith, h))),
  sorted_pairs xs (tail tap_cmp tap_cmp_total tap_cmp_exact x xs up),
)

pub pairs_map : {X : Type 0} (R S : X → X → Type 0) (xs : List X) → ((x y : X) → R x y → S x y)
    → Pairs R xs → Pairs S xs
pairs_map R S [] f pairs = tt
pairs_map R S (x ∷ xs) f pairs =
    (All-weaker (R x) (S x) (f x) xs pairs.0, pairs_map R S xs f pairs.1)

-- elements, and more of them
pub pairs_append : {X : Type 0} (R : X → X → Type 0) (xs ys : List X) → Pairs R xs → Pairs R ys
    → All (λ x. All (R x) ys) xs → Pairs R (xs ++ ys)
pairs_append R [] ys one other all = other
pairs_append R (x ∷ xs) ys one other all = (
  All-append (R x) xs ys one.0 (All-head (λ z. All (R z) ys) x xs all),
  pairs_append R xs ys one.1 other (All-tail (λ z. All (R z) ys) x xs all),
)

-- in order, and so in order within each token
pub all_ascending : (xs : List TapFields) → IsSorted tap_cmp xs → Pairs Ascends xs
all_ascending xs up = pairs_map NotLess Ascends xs (λ x y not same. not) (sorted_pairs xs up)
