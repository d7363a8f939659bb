-- Ranges that rise and stand apart.
use Rattle.std.proofs.Common.{◌≡◌, ◌⊎◌, ℕ, ◌+◌, ◌-◌, ◌/◌, ◌<◌, ◌≤◌, ◌&&◌, Bool, true, false, List}
use Rattle.std.proofs.Common.{[], ◌∷◌, length, map, get_or, refl, sym, ◌∙◌, arith, zero, suc, take}
use Rattle.std.proofs.Common.{Option, Some, None, cond, inl, inr, add-one, IfSome}
use Rattle.std.proofs.Math.Bool.{and-false}
use Rattle.std.proofs.lemmas.Bool.{and_parts, cases_Bool, false≢true, leb-true, Decides.leb_tells}
use Rattle.std.proofs.lemmas.{Bool.Decides.nat_tests, List.get_or_default, List.get_or-map}
use Rattle.std.proofs.lemmas.List.Sorted.{IsNonDecreasingBy-from_all_adjacent, IsPartitionedBy-leb}
use Rattle.std.proofs.lemmas.Option.{slice_get-get_or}
use Rattle.std.specs.List.{slice_get, AllWithin, find, list_all, Sorted.IsNonDecreasingBy}
use Rattle.std.specs.{List.Sorted.IsPartitionedBy, Option.option_or}
use Rattle.std.specs.Prelude.{nat_le, nat_lt, if◌then◌else◌}
use Rattle.tariffs.specs.{Fares.has_number, Validators.are_disjoint, Validators.last_started}
use Rattle.tariffs.specs.declared.validators.RangeRest.{RangeRest}
use Rattle.tariffs.specs.inside.Validators.{is_increasing, IsSplitAt}

-- the range, if it reaches the number
abbrev pub reaching : ℕ → Option (ℕ × RangeRest) → Option (ℕ × RangeRest)
reaching number None = None
reaching number (Some range) = if nat_le number range.1.last then Some range else None

pub or_twice : {A : Type 0} (o : Option A) (a b : A)
    → option_or (option_or o (Some a)) (Some b) ≡ option_or o (Some a)
or_twice None a b = refl
or_twice (Some x) a b = refl

-- what two neighbours that stand apart say
pub record AreApart (range next : ℕ × RangeRest) (more : List (ℕ × RangeRest)) : Type 0 where
  pub begins : range.0 ≤ range.1.last
  pub ends : range.1.last < next.0
  pub rest : are_disjoint (next ∷ more) ≡ true

pub apart : (range next : ℕ × RangeRest) (more : List (ℕ × RangeRest))
    → are_disjoint (range ∷ next ∷ more) ≡ true
    → AreApart range next more
apart range next more holds =
    let both = and_parts (nat_le range.0 range.1.last && nat_lt range.1.last next.0)
    (are_disjoint (next ∷ more)) holds in
    let first = and_parts (nat_le range.0 range.1.last) (nat_lt range.1.last next.0) both.0 in
    record {
      begins = leb-true _ _ first.0;
      ends = leb-true _ _ first.1;
      rest = both.1;
    }

found_step : (n : ℕ) (range next : ℕ × RangeRest) (more : List (ℕ × RangeRest))
    → AreApart range next more
    → find (has_number n) (next ∷ more) ≡ reaching n (last_started n (next ∷ more))
    → ((nat_le range.0 n ≡ true) × (range.0 ≤ n)) ⊎ ((nat_le range.0 n ≡ false) × (n < range.0))
    → ((nat_le next.0 n ≡ true) × (next.0 ≤ n)) ⊎ ((nat_le next.0 n ≡ false) × (n < next.0))
    → find (has_number n) (range ∷ next ∷ more) ≡ reaching n (last_started n (range ∷ next ∷ more))
found_step n range next more two ih (inr a) nexts =
    let later : nat_le next.0 n ≡ false = grind (arith, nat_tests, two.begins, two.ends) in
    rw (a.0, ih, later)
found_step n range next more two ih (inl a) (inr b) = rw (ih, a.0, b.0)
found_step n range next more two ih (inl a) (inl b) =
    let past : nat_le n range.1.last ≡ false = grind (arith, nat_tests, two.ends) in
    rw (a.0, past, ih, b.0, or_twice (last_started n more) next range)

-- the range that has a number is the last one that begins at it or before it, if that reaches it
pub found : (n : ℕ) (ranges : List (ℕ × RangeRest)) → are_disjoint ranges ≡ true
    → find (has_number n) ranges ≡ reaching n (last_started n ranges)
found n [] holds = refl
found n (range ∷ []) holds = elim (leb_tells range.0 n) [ inl a ↦ rw a.0 | inr a ↦ rw a.0 ]
found n (range ∷ next ∷ more) holds =
    let two = apart range next more holds in
    found_step n range next more two (found n (next ∷ more) two.rest) (leb_tells range.0 n)
    (leb_tells next.0 n)

-- the first of ranges that stand apart begins no later than it ends
pub begins_first : (range : ℕ × RangeRest) (more : List (ℕ × RangeRest))
    → are_disjoint (range ∷ more) ≡ true → range.0 ≤ range.1.last
begins_first range [] holds = leb-true _ _ holds
begins_first range (next ∷ more) holds = (apart range next more holds).begins

-- ranges that stand apart end before those behind them begin, and so before those end
ends_before : (range : ℕ × RangeRest) (more : List (ℕ × RangeRest)) (i : ℕ) (d : ℕ × RangeRest)
    → are_disjoint (range ∷ more) ≡ true → i < length more
    → (range.1.last < (get_or more i d).0) × (range.1.last < (get_or more i d).1.last)
ends_before range [] i d holds inside = absurd (omega arith)
ends_before range (next ∷ more) zero d holds inside =
    let two = apart range next more holds in
    let begins = begins_first next more two.rest in
    (two.ends, omega (arith, two.ends, begins))
ends_before range (next ∷ more) (suc i) d holds inside =
    let two = apart range next more holds in
    let begins = begins_first next more two.rest in
    let trailing = ends_before next more i d two.rest (omega arith) in
    (omega (arith, two.ends, begins, trailing.0), omega (arith, two.ends, begins, trailing.1))

-- a range that ends before a number is not the one that has it
passed : (n : ℕ) (range : ℕ × RangeRest) (more : List (ℕ × RangeRest)) → range.1.last < n
    → find (has_number n) (range ∷ more) ≡ find (has_number n) more
passed n range more ends =
    let past : nat_le n range.1.last ≡ false = grind (arith, nat_tests, ends) in
    rw (past, and-false (nat_le range.0 n))

-- of ranges that stand apart, one that has a number is the one that is found
pub only_one : (n : ℕ) (ranges : List (ℕ × RangeRest)) (i : ℕ) (d : ℕ × RangeRest)
    → are_disjoint ranges ≡ true
    → i < length ranges
    → (get_or ranges i d).0 ≤ n → n ≤ (get_or ranges i d).1.last
    → find (has_number n) ranges ≡ Some (get_or ranges i d)
only_one n [] i d holds inside begins ends = absurd (omega arith)
only_one n (range ∷ more) zero d holds inside begins ends =
    let first : nat_le range.0 n ≡ true = grind (arith, nat_tests, begins) in
    let last : nat_le n range.1.last ≡ true = grind (arith, nat_tests, ends) in
    rw (first, last)
only_one n (range ∷ []) (suc i) d holds inside begins ends = absurd (omega arith)
only_one n (range ∷ next ∷ more) (suc i) d holds inside begins ends =
    let two = apart range next more holds in
    let before = ends_before range (next ∷ more) i d holds (omega arith) in
    rw (passed n range (next ∷ more) (omega (arith, before.0, begins)))
    (only_one n (next ∷ more) i d two.rest (omega arith) begins ends)

-- of ranges that stand apart none has a number before the first one
pub none_before : (n : ℕ) (ranges : List (ℕ × RangeRest)) (d : ℕ × RangeRest)
    → are_disjoint ranges ≡ true
    → n < (get_or ranges 0 d).0
    → find (has_number n) ranges ≡ None
none_before n [] d holds begins = refl
none_before n (range ∷ []) d holds begins =
    let later : nat_le range.0 n ≡ false = grind (arith, nat_tests, begins) in
    rw later
none_before n (range ∷ next ∷ more) d holds begins =
    let two = apart range next more holds in
    let later : nat_le range.0 n ≡ false = grind (arith, nat_tests, begins) in
    rw later (none_before n (next ∷ more) d two.rest (omega (arith, two.begins, two.ends, begins)))

-- nor has one a number between two neighbours
pub none_between : (n : ℕ) (ranges : List (ℕ × RangeRest)) (i : ℕ) (d : ℕ × RangeRest)
    → are_disjoint ranges ≡ true → suc i < length ranges
    → (get_or ranges i d).1.last < n → n < (get_or ranges (suc i) d).0
    → find (has_number n) ranges ≡ None
none_between n [] i d holds inside ends begins = refl
none_between n (range ∷ []) i d holds inside ends begins = absurd (omega arith)
none_between n (range ∷ next ∷ more) zero d holds inside ends begins =
    let two = apart range next more holds in
    rw (passed n range (next ∷ more) ends) (none_before n (next ∷ more) d two.rest begins)
none_between n (range ∷ next ∷ more) (suc i) d holds inside ends begins =
    let two = apart range next more holds in
    let before = ends_before range (next ∷ more) i d holds (omega arith) in
    rw (passed n range (next ∷ more) (omega (arith, before.1, ends)))
    (none_between n (next ∷ more) i d two.rest (omega arith) ends begins)

last_of_cons : (r : ℕ × RangeRest) (t : List (ℕ × RangeRest))
    → slice_get (r ∷ t) (length (r ∷ t) - 1) ≡ option_or (slice_get t (length t - 1)) (Some r)
last_of_cons r [] = refl
last_of_cons r (x ∷ xs) =
    let inside : length xs < length (x ∷ xs) = omega arith in
    let first : length (r ∷ x ∷ xs) - 1 ≡ suc (length xs) = omega arith in
    let second : length (x ∷ xs) - 1 ≡ length xs = omega arith in
    rw (first, second, slice_get-get_or (x ∷ xs) (length xs) x inside)

-- the last of a list whose first part begins at the number or before it, and whose other part after
-- it
pub last_started-split : (n : ℕ) (ranges : List (ℕ × RangeRest)) (i : ℕ)
    → AllWithin (λ range. nat_le range.0 n ≡ true) ranges 0 i
    → AllWithin (λ range. nat_le range.0 n ≡ false) ranges i (length ranges)
    → slice_get (take i ranges) (length (take i ranges) - 1) ≡ last_started n ranges
last_started-split n [] zero front back = refl
last_started-split n [] (suc i) front back = refl
last_started-split n (r ∷ rest) zero front back =
    let after : nat_le r.0 n ≡ false = back 0 r (omega arith) (omega arith) in
    rw after
last_started-split n (r ∷ rest) (suc i) front back =
    let before : nat_le r.0 n ≡ true = front 0 r (omega arith) (omega arith) in
    let ih = last_started-split n rest i
    (λ k d low high. front (suc k) d (omega arith) (omega arith))
    (λ k d low high. back (suc k) d (omega arith) (omega arith)) in
    rw (last_of_cons r (take i rest), ih, before)

-- the first numbers of ranges that stand apart rise
pub holds-increases : (ranges : List (ℕ × RangeRest)) → are_disjoint ranges ≡ true
    → is_increasing (map (λ range. range.0) ranges) ≡ true
holds-increases [] holds = refl
holds-increases (r ∷ []) holds = refl
holds-increases (r ∷ s ∷ more) holds =
    let two = apart r s more holds in
    let below : nat_lt r.0 s.0 ≡ true = grind (arith, nat_tests, two.begins, two.ends) in
    rw (below, holds-increases (s ∷ more) two.rest)

increasing_adjacent : (firsts : List ℕ) → is_increasing firsts ≡ true → (k d : ℕ)
    → suc k < length firsts
    → get_or firsts k d < get_or firsts (suc k) d
increasing_adjacent [] increasing k d inside = absurd (omega arith)
increasing_adjacent (x ∷ []) increasing k d inside = absurd (omega arith)
increasing_adjacent (x ∷ y ∷ more) increasing zero d inside =
    leb-true _ _ (and_parts (nat_lt x y) (is_increasing (y ∷ more)) increasing).0
increasing_adjacent (x ∷ y ∷ more) increasing (suc k) d inside =
    increasing_adjacent (y ∷ more) (and_parts (nat_lt x y) (is_increasing (y ∷ more)) increasing).1
    k d
    (omega arith)

increases : (firsts : List ℕ) → is_increasing firsts ≡ true
    → IsNonDecreasingBy (λ first. first) firsts
increases firsts increasing =
    IsNonDecreasingBy-from_all_adjacent (λ first. first) firsts
    (λ k d inside. rw add-one
    (let below = increasing_adjacent firsts increasing k d (omega arith) in omega (arith, below)))

-- rising numbers are not below their places
pub increasing-reaches : (firsts : List ℕ) → is_increasing firsts ≡ true → (k d : ℕ)
    → k < length firsts
    → k ≤ get_or firsts k d
increasing-reaches firsts increasing zero d inside = omega arith
increasing-reaches firsts increasing (suc k) d inside =
    let below = increasing_adjacent firsts increasing k d inside in
    let reached = increasing-reaches firsts increasing k d (omega arith) in
    omega (arith, below, reached)

-- what holds of first numbers holds of the ranges' first numbers
pub within-firsts : (n : ℕ) (b : Bool) (ranges : List (ℕ × RangeRest)) (i j : ℕ) → j ≤ length ranges
    → AllWithin (λ first. nat_le first n ≡ b) (map (λ range. range.0) ranges) i j
    → AllWithin (λ range. nat_le range.0 n ≡ b) ranges i j
within-firsts n b ranges i j inside all = λ k d low high.
    let here : nat_le (get_or (map (λ (range : ℕ × RangeRest). range.0) ranges) k d.0) n ≡ b =
    all k d.0 low high in
    rw (get_or-map (λ (range : ℕ × RangeRest). range.0) ranges k d d.0 (omega arith)) at here

found_one : {A : Type 0} (p q : A → Bool) (x : A) (xs : List A) (b : Bool) → p x ≡ true
    → IfSome (find q xs) (λ y. p y ≡ true) → IfSome (cond b (Some x) (find q xs)) (λ y. p y ≡ true)
found_one p q x xs true here later = here
found_one p q x xs false here later = later

-- what a test says of each element, it says of the one that is found
pub find-all : {A : Type 0} (p q : A → Bool) (xs : List A) → list_all p xs ≡ true
    → IfSome (find q xs) (λ x. p x ≡ true)
find-all p q [] all = tt
find-all p q (x ∷ xs) all =
    let both = and_parts (p x) (list_all p xs) all in
    found_one p q x xs (q x) both.0 (find-all p q xs both.1)

parted : (n : ℕ) (firsts : List ℕ) → is_increasing firsts ≡ true
    → IsPartitionedBy (λ first. nat_le first n) firsts
parted n firsts increasing =
    IsPartitionedBy-leb (λ first. first) firsts n (increases firsts increasing)

halved : (n : ℕ) (firsts : List ℕ) (base size : ℕ) (d : ℕ) → is_increasing firsts ≡ true
    → IsSplitAt n firsts base size → 1 < size → base + size ≤ length firsts
    → (b : Bool) → nat_le (get_or firsts (base + size / 2) d) n ≡ b
    → IsSplitAt n firsts (base + (if b then size / 2 else 0)) (size - size / 2)
halved n firsts base size d increasing split more inside true is = record {
  front = λ k e low high.
      let same : get_or firsts (base + size / 2) d ≡ get_or firsts (base + size / 2) e =
      get_or_default firsts (base + size / 2) d e (omega arith) in
      let here : nat_le (get_or firsts (base + size / 2) e) n ≡ true = rw (← same) is in
      parted n firsts increasing k (base + size / 2) e (omega arith) (omega arith) here;
  back = λ k e low high. split.back k e (omega arith) high;
}
halved n firsts base size d increasing split more inside false is = record {
  front = λ k e low high. split.front k e low (omega arith);
  back = λ k e low high.
      let same : get_or firsts (base + size / 2) d ≡ get_or firsts (base + size / 2) e =
      get_or_default firsts (base + size / 2) d e (omega arith) in
      let here : nat_le (get_or firsts (base + size / 2) e) n ≡ false = rw (← same) is in
      elim (cases_Bool (nat_le (get_or firsts k e) n)) [
        | inl started ↦ absurd (false≢true (sym here
            ∙ parted n firsts increasing (base + size / 2) k e (omega arith) high started))
        | inr later ↦ later
      ];
}

-- half of what is left is taken if its first number is not above the number
pub split-half : (n : ℕ) (firsts : List ℕ) (base size : ℕ) (d : ℕ) → is_increasing firsts ≡ true
    → IsSplitAt n firsts base size → 1 < size → base + size ≤ length firsts
    → IsSplitAt n firsts
    (base + (if nat_le (get_or firsts (base + size / 2) d) n then size / 2 else 0))
    (size - size / 2)
split-half n firsts base size d increasing split more inside =
    halved n firsts base size d increasing split more inside
    (nat_le (get_or firsts (base + size / 2) d) n) refl
