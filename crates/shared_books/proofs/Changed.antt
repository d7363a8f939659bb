-- A sum over a list of which one element changed.
use Rattle.std.proofs.Common.{◌≡◌, ◌≢◌, ℕ, ◌+◌, ◌<◌, ◌≤◌, zero, suc, List, [], ◌∷◌, set, sum_by}
use Rattle.std.proofs.Common.{refl, sym, ap, arith, length}
use Rattle.std.proofs.lemmas.List.Sums.{sum_by-cons}
use mathlib.Core.Option.{some, some-ne-none, some-injective}
use lib.ListN.{get_elem?}

suc_not_zero : (n : ℕ) → suc n ≡ 0 → ⊥
suc_not_zero n e = omega arith

module _ {A : Type 0} where
  pub sum_set : (f : A → ℕ) (xs : List A) (j : ℕ) (h k : A) → get_elem? xs j ≡ some h
      → sum_by f (set xs j k) + f h ≡ sum_by f xs + f k
  sum_set f [] j h k e = absurd (some-ne-none h (sym e))
  sum_set f (x ∷ xs) zero h k e = let same : f x ≡ f h = ap f (some-injective x h e) in
      omega (arith, sum_by-cons f x xs, sum_by-cons f k xs)
  sum_set f (x ∷ xs) (suc j) h k e = let rest = sum_set f xs j h k e in
      omega (arith, sum_by-cons f x xs, sum_by-cons f x (set xs j k))

  -- an element is part of the sum
  pub sum_part : (f : A → ℕ) (xs : List A) (j : ℕ) (h : A) → get_elem? xs j ≡ some h
      → f h ≤ sum_by f xs
  sum_part f [] j h e = absurd (some-ne-none h (sym e))
  sum_part f (x ∷ xs) zero h e = let same : f x ≡ f h = ap f (some-injective x h e) in
      omega (arith, sum_by-cons f x xs)
  sum_part f (x ∷ xs) (suc j) h e = let rest = sum_part f xs j h e in
      omega (arith, sum_by-cons f x xs)

  pub at_less : (xs : List A) (j : ℕ) (h : A) → get_elem? xs j ≡ some h → j < length xs
  at_less [] j h e = absurd (some-ne-none h (sym e))
  at_less (x ∷ xs) zero h e = omega arith
  at_less (x ∷ xs) (suc j) h e = let rest = at_less xs j h e in omega arith

  -- two elements are part of the sum
  pub two_parts : (f : A → ℕ) (xs : List A) (j i : ℕ) (h k : A) → i ≢ j → get_elem? xs j ≡ some h
      → get_elem? xs i ≡ some k → f h + f k ≤ sum_by f xs
  two_parts f [] j i h k ne at there = absurd (some-ne-none h (sym at))
  two_parts f (x ∷ xs) zero zero h k ne at there = absurd (ne refl)
  two_parts f (x ∷ xs) zero (suc i) h k ne at there =
      let same : f x ≡ f h = ap f (some-injective x h at) in let part = sum_part f xs i k there in
      omega (arith, sum_by-cons f x xs)
  two_parts f (x ∷ xs) (suc j) zero h k ne at there =
      let same : f x ≡ f k = ap f (some-injective x k there) in let part = sum_part f xs j h at in
      omega (arith, sum_by-cons f x xs)
  two_parts f (x ∷ xs) (suc j) (suc i) h k ne at there =
      let rest = two_parts f xs j i h k (λ e. ne (ap suc e)) at there in
      omega (arith, sum_by-cons f x xs)

  sum_none : (f : A → ℕ) (xs : List A) → ((i : ℕ) (k : A) → get_elem? xs i ≡ some k → f k ≡ 0)
      → sum_by f xs ≡ 0
  sum_none f [] none = refl
  sum_none f (x ∷ xs) none = let one = none 0 x refl in let rest =
      sum_none f xs (λ i k e. none (suc i) k e) in omega (arith, sum_by-cons f x xs)

  -- if all others are nothing, an element is the sum
  pub sum_only : (f : A → ℕ) (xs : List A) (j : ℕ) (h : A) → get_elem? xs j ≡ some h
      → ((i : ℕ) (k : A) → i ≢ j → get_elem? xs i ≡ some k → f k ≡ 0) → sum_by f xs ≡ f h
  sum_only f [] j h at none = absurd (some-ne-none h (sym at))
  sum_only f (x ∷ xs) zero h at none =
      let same : f x ≡ f h = ap f (some-injective x h at) in
      let rest = sum_none f xs (λ i k e. none (suc i) k (λ z. suc_not_zero i z) e) in
      omega (arith, sum_by-cons f x xs)
  sum_only f (x ∷ xs) (suc j) h at none =
      let one = none 0 x (λ z. suc_not_zero j (sym z)) refl in
      let rest = sum_only f xs j h at (λ i k ne e. none (suc i) k (λ s. ne (omega arith)) e) in
      omega (arith, sum_by-cons f x xs)
