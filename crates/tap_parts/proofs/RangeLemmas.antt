-- Bounds that do not fall: how many are not above a number, and that a later range has later
-- tokens.
use Rattle.std.proofs.Common.{◌≡◌, ℕ, zero, suc, ◌-◌, ◌<◌, ◌≤◌, List, [], ◌∷◌, length, get_or}
use Rattle.std.proofs.Common.{filter, Bool, false, ap, arith, inl, inr}
use Rattle.std.proofs.lemmas.{Bool.cases_lt, Bool.le-leb, Bool.lt-leb, Cmp.nat_cmp_total}
use Rattle.std.proofs.lemmas.List.{Sorted.ranks_by, Sorted.sorted_far, Sums.count_by-le-length}
use Rattle.std.proofs.lemmas.{List.Sums.length-filter, Map.Keys.ge_from_not_lt}
use Rattle.std.specs.{List.Sorted.IsSorted, Ordering.is_lt, Ordering.nat_cmp}
use Rattle.std.specs.Prelude.{◌⊎◌, nat_le}
use Rattle.tap_parts.proofs.TokenOrder.{lower_number}
use Rattle.tap_parts.specs.{Canonical.tap_cmp, Ranges.range_of_token}
use Rattle.tap_parts.specs.inside.Positions.{ArePositionsInOrder}
use Rattle.tap_views.specs.Layout.{num}

-- up to a place none is above the number, and all others are
pub counted : (xs : List ℕ) (k n : ℕ) → k ≤ length xs
    → ((i : ℕ) → i < k → get_or xs i 0 ≤ n)
    → ((i : ℕ) → k ≤ i → i < length xs → n < get_or xs i 0)
    → length (filter (λ x. nat_le x n) xs) ≡ k
counted [] k n within low high = omega (arith, within)
counted (x ∷ xs) zero n within low high =
    rw (lt-leb x n (high 0 (omega arith) (omega arith)))
    (counted xs zero n (omega arith) (λ i below. absurd (omega (arith, below)))
    (λ i least below. high (suc i) (omega arith) (omega (arith, below))))
counted (x ∷ xs) (suc k) n within low high =
    rw (le-leb x n (low 0 (omega arith)))
    (ap suc (counted xs k n (omega (arith, within)) (λ i below. low (suc i) (omega (arith, below)))
    (λ i least below. high (suc i) (omega (arith, least)) (omega (arith, below)))))

-- of two bounds the later is not below the earlier
pub ascending_far : (xs : List ℕ) → IsSorted nat_cmp xs → (i j : ℕ) → i ≤ j → j < length xs
    → get_or xs i 0 ≤ get_or xs j 0
ascending_far xs sorted i j order inside =
    ge_from_not_lt (get_or xs j 0) (get_or xs i 0)
    (sorted_far (λ a b. is_lt (nat_cmp a b)) (ranks_by nat_cmp_total (λ (x : ℕ). x)) xs sorted i j 0
    order inside)

-- where the bounds that are not above the number end
pub counted_at : (xs : List ℕ) → IsSorted nat_cmp xs → (k n : ℕ) → k ≤ length xs
    → (0 < k → get_or xs (k - 1) 0 ≤ n) → (k < length xs → n < get_or xs k 0)
    → length (filter (λ x. nat_le x n) xs) ≡ k
counted_at xs sorted k n within low high =
    counted xs k n within
    (λ i below.
    let increase = ascending_far xs sorted i (k - 1) (omega (arith, below))
    (omega (arith, below, within)) in
    let last = low (omega (arith, below)) in omega (arith, increase, last))
    (λ i least inside.
    let increase = ascending_far xs sorted k i least inside in
    let first = high (omega (arith, least, inside)) in omega (arith, increase, first))

-- fewer bounds are not above a lesser number
pub counts_ascend : (xs : List ℕ) (n m : ℕ) → n ≤ m
    → length (filter (λ x. nat_le x n) xs) ≤ length (filter (λ x. nat_le x m) xs)
counts_ascend [] n m least = omega arith
counts_ascend (x ∷ xs) n m least = by_bound (cases_lt n x) (counts_ascend xs n m least)
  where
    by_bound : (n < x) ⊎ (x ≤ n)
        → length (filter (λ x. nat_le x n) xs) ≤ length (filter (λ x. nat_le x m) xs)
        → length (filter (λ x. nat_le x n) (x ∷ xs)) ≤ length (filter (λ x. nat_le x m) (x ∷ xs))
    by_bound (inl over) rest = rw (lt-leb x n over) (by_other (cases_lt m x) rest)
      where
        by_other : (m < x) ⊎ (x ≤ m)
            → length (filter (λ x. nat_le x n) xs) ≤ length (filter (λ x. nat_le x m) xs)
            → length (filter (λ x. nat_le x n) xs) ≤ length (filter (λ x. nat_le x m) (x ∷ xs))
        by_other (inl far) more = rw (lt-leb x m far) more
        by_other (inr near) more = rw (le-leb x m near) (omega (arith, more))
    by_bound (inr under) rest =
        rw (le-leb x n under, le-leb x m (omega (arith, under, least))) (omega (arith, rest))

-- there is a range more than there are bounds
pub range_below : (bounds token : List ℕ) → range_of_token bounds token ≤ length bounds
range_below bounds token =
    let p : ℕ → Bool = λ bound. nat_le bound (num token) in
    let all = length-filter p bounds in
    let most = count_by-le-length p bounds in
    omega (arith, all, most)

-- ranges are places in order
pub ranges_in_order : (bounds : List ℕ)
    → ArePositionsInOrder (λ tap. range_of_token bounds tap.token)
ranges_in_order bounds a b one other less = by_number (cases_lt (num a.token) (num b.token))
  where
    by_number : (num a.token < num b.token) ⊎ (num b.token ≤ num a.token)
        → is_lt (tap_cmp b a) ≡ false
    by_number (inl below) = lower_number a b one other below
    by_number (inr most) =
        let increase = counts_ascend bounds (num b.token) (num a.token) most in
        absurd (omega (arith, increase, less))
