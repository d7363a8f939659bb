-- Lists with the same elements, each as often, in whatever order.
use Rattle.std.proofs.Common.{◌≡◌, Bool, true, List, [], ◌∷◌, ◌++◌, map, filter, cond, sym, ap, ◌∙◌}
use Rattle.std.proofs.Common.{arith, All, inl, inr}
use Rattle.fare_service.proofs.AddingLemmas.{sum_by-map}
use Rattle.settlement.proofs.Contained.{kept_there, there_cases, was_there}
use Rattle.settlement.proofs.{Placed.Pairs, Same.sum_filter, Unique.AreAlike}
use Rattle.std.proofs.lemmas.List.Elements.{All-contains, All-contains_itself, All-head, All-tail}
use Rattle.std.proofs.lemmas.List.Elements.{All-cons, filter_passes, All-weaker}
use Rattle.std.proofs.lemmas.List.Sorted.{Contains-permutation, IsPermutation-sym}
use Rattle.std.proofs.lemmas.List.Sorted.{sum_by-IsPermutation}
use Rattle.std.proofs.lemmas.List.Sums.{sum_by-append, sum_by-cons}
use Rattle.std.specs.{List.Sorted.IsPermutation, Prelude.◌⊎◌, Prelude.Contains}

pub permuted_alike : {X : Type 0} (xs ys : List X) → IsPermutation xs ys → AreAlike xs ys
permuted_alike xs ys moved = λ f. sym (sum_by-IsPermutation f xs ys moved)

pub alike-filter : {X : Type 0} (p : X → Bool) (xs ys : List X) → AreAlike xs ys
    → AreAlike (filter p xs) (filter p ys)
alike-filter p xs ys alike = λ f.
    sum_filter p f xs ∙ alike (λ x. cond (p x) (f x) 0) ∙ sym (sum_filter p f ys)

pub alike-map : {X Y : Type 0} (g : X → Y) (xs ys : List X) → AreAlike xs ys
    → AreAlike (map g xs) (map g ys)
alike-map g xs ys alike = λ f.
    sum_by-map f g xs ∙ alike (λ x. f (g x)) ∙ sym (sum_by-map f g ys)

-- without an element that one has in front and the other in the middle
pub alike-without : {X : Type 0} (x : X) (xs front back : List X)
    → AreAlike (x ∷ xs) (front ++ x ∷ back) → AreAlike xs (front ++ back)
alike-without x xs front back alike = λ f.
    let whole = alike f in
    let first = sum_by-cons f x xs in
    let middle = sum_by-cons f x back in
    let there = sum_by-append f front (x ∷ back) in
    let here = sum_by-append f front back in
    omega (arith, whole, first, middle, there, here)

-- an element, with what stands before and behind it
pub split_at : {X : Type 0} (x : X) (xs : List X) → Contains xs x
    → (front : List X) × (back : List X) × (xs ≡ front ++ x ∷ back)
split_at x [] there = absurd (omega (arith, there.1))
split_at x (y ∷ ys) there = by_cases (there_cases y x ys there) (split_at x ys)
  where
    by_cases : (y ≡ x) ⊎ Contains ys x
        → (Contains ys x → (front : List _) × (back : List _) × (ys ≡ front ++ x ∷ back))
        → (front : List _) × (back : List _) × (y ∷ ys ≡ front ++ x ∷ back)
    by_cases (inl e) later = ([], ys, ap (λ z. z ∷ ys) e)
    by_cases (inr rest) later =
        let (front, back, is) = later rest in (y ∷ front, back, ap (λ zs. y ∷ zs) is)

-- what holds of the kept elements of the one holds of those of the other
pub moved_all : {X : Type 0} (p : X → Bool) (P : X → Type 0) (xs ys : List X) → IsPermutation xs ys
    → All P (filter p xs) → All P (filter p ys)
moved_all p P xs ys moved all =
    All-weaker (Contains (filter p ys)) P (λ z there.
    let passes : p z ≡ true =
    All-contains (λ x. p x ≡ true) (filter p ys) z (filter_passes p ys) there in
    All-contains P (filter p xs) z all
    (kept_there p xs z passes (Contains-permutation ys xs z (IsPermutation-sym xs ys moved)
    (was_there p ys z there)))) (filter p ys)
    (All-contains_itself (filter p ys))

-- what is kept of the one is kept of the other
pub moved_kept : {X : Type 0} (p : X → Bool) (xs ys : List X) (z : X) → IsPermutation xs ys
    → Contains (filter p xs) z → Contains (filter p ys) z
moved_kept p xs ys z moved there =
    kept_there p ys z
    (All-contains (λ x. p x ≡ true) (filter p xs) z (filter_passes p xs) there)
    (Contains-permutation xs ys z moved (was_there p xs z there))

-- pairs of a list without one of its elements
all_without : {X : Type 0} (P : X → Type 0) (x : X) (front back : List X)
    → All P (front ++ x ∷ back) → All P (front ++ back)
all_without P x [] back all = All-tail P x back all
all_without P x (y ∷ front) back all =
    All-cons P y (front ++ back) (All-head P y (front ++ x ∷ back) all)
    (all_without P x front back (All-tail P y (front ++ x ∷ back) all))

pub pairs_without : {X : Type 0} (R : X → X → Type 0) (x : X) (front back : List X)
    → Pairs R (front ++ x ∷ back) → Pairs R (front ++ back)
pairs_without R x [] back pairs = pairs.1
pairs_without R x (y ∷ front) back pairs =
    (all_without (R y) x front back pairs.0, pairs_without R x front back pairs.1)

pub pairs_after : {X : Type 0} (R : X → X → Type 0) (x : X) (front back : List X)
    → Pairs R (front ++ x ∷ back) → All (R x) back
pairs_after R x [] back pairs = pairs.0
pairs_after R x (y ∷ front) back pairs = pairs_after R x front back pairs.1
