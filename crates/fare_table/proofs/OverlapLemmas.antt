-- When a new range shares a number with ranges that stand apart, and that they stay apart if not.
use Rattle.std.proofs.Common.{◌≡◌, ◌⊎◌, ℕ, ◌<◌, ◌≤◌, not, Bool, true, false, List, [], ◌∷◌, ◌++◌}
use Rattle.std.proofs.Common.{refl, sym, ap, ◌∙◌, arith, Option, Some, None, cond, inl, inr, le-leb}
use Rattle.std.proofs.Common.{Ordering, Less, Equal, Greater}
use Rattle.fare_table.specs.Validators.{share_number}
use Rattle.std.proofs.Math.Bool.{or-false, and-false, and-true}
use Rattle.std.proofs.lemmas.Bool.{and_parts, false≢true, or_parts}
use Rattle.std.proofs.lemmas.Bool.Decides.{leb_tells, nat_tests}
use Rattle.std.specs.BTreeMap.{insert_entry, Range.entries_between}
use Rattle.std.specs.{Cmp.nat_cmp_is, List.list_any, Option.option_or, Ordering.nat_cmp}
use Rattle.std.specs.{Ordering.is_lt, Ordering.match_ordering, Prelude.nat_le, Prelude.nat_lt}
use Rattle.std.specs.declared.ops.Bound.TheVariants.{Unbounded, Included}
use Rattle.tariffs.proofs.ApartLemmas.{AreApart, apart, or_twice, begins_first}
use Rattle.tariffs.specs.Validators.{are_modes_below, are_disjoint, last_started}
use Rattle.tariffs.specs.declared.validators.RangeRest.{RangeRest}

-- the last element of a list
abbrev pub last_of : {A : Type 0} → List A → Option A
last_of [] = None
last_of (x ∷ xs) = option_or (last_of xs) (Some x)

pub last_of-append : {A : Type 0} (xs : List A) (x : A) → last_of (xs ++ x ∷ []) ≡ Some x
last_of-append [] x = refl
last_of-append (y ∷ ys) x = rw (last_of-append ys x)

-- the ranges that begin at the number or before it
abbrev pub started : ℕ → List (ℕ × RangeRest) → List (ℕ × RangeRest)
started n ranges = entries_between nat_cmp Unbounded (Included n) ranges

not_past : (n q : ℕ) → not (is_lt (nat_cmp n q)) ≡ nat_le q n
not_past n q = grind (arith, nat_tests)

started_cons : (n : ℕ) (range : ℕ × RangeRest) (more : List (ℕ × RangeRest))
    → started n (range ∷ more) ≡ cond (nat_le range.0 n) (range ∷ started n more) (started n more)
started_cons n range more =
    ap (λ b. cond b (range ∷ started n more) (started n more)) (not_past n range.0)

started_step : (n : ℕ) (range : ℕ × RangeRest) (more : List (ℕ × RangeRest)) → n < range.0
    → started n more ≡ []
    → started n (range ∷ more) ≡ []
started_step n range more after rest =
    let past : nat_le range.0 n ≡ false = grind (arith, nat_tests) in
    started_cons n range more ∙ rw (past, rest)

started_none : (n : ℕ) (range : ℕ × RangeRest) (more : List (ℕ × RangeRest))
    → are_disjoint (range ∷ more) ≡ true
    → n < range.0 → started n (range ∷ more) ≡ []
started_none n range [] holds after = started_step n range [] after refl
started_none n range (next ∷ more) holds after =
    let two = apart range next more holds in
    let later : n < next.0 = omega (arith, two.begins, two.ends) in
    started_step n range (next ∷ more) after (started_none n next more two.rest later)

pub rest_holds : (range : ℕ × RangeRest) (more : List (ℕ × RangeRest))
    → are_disjoint (range ∷ more) ≡ true
    → are_disjoint more ≡ true
rest_holds range [] holds = refl
rest_holds range (next ∷ more) holds = (apart range next more holds).rest

-- what a map's range up to a number ends with
pub last_started-started : (n : ℕ) (ranges : List (ℕ × RangeRest)) → are_disjoint ranges ≡ true
    → last_of (started n ranges) ≡ last_started n ranges
last_started-started n [] holds = refl
last_started-started n (range ∷ more) holds = elim (leb_tells range.0 n) [
  | inl a ↦ rw
      (started_cons n range more, a.0, last_started-started n more (rest_holds range more holds))
  | inr a ↦ rw (started_none n range more holds a.1, a.0)
]

-- the range reaches back to the number
abbrev pub reaches : ℕ → Option (ℕ × RangeRest) → Bool
reaches number None = false
reaches number (Some range) = nat_le number range.1.last

-- the last range that begins no later than a number reaches any number that an earlier one reaches
reached : (x n : ℕ) (range : ℕ × RangeRest) (more : List (ℕ × RangeRest))
    → are_disjoint (range ∷ more) ≡ true
    → nat_le range.0 n ≡ true → x ≤ range.1.last
    → reaches x (last_started n (range ∷ more)) ≡ true
reached x n range [] holds here back = rw here (le-leb _ _ back)
reached x n range (next ∷ more) holds here back =
    let two = apart range next more holds in
    elim (leb_tells next.0 n) [
      | inl a ↦
          let further : next.0 ≤ next.1.last = begins_first next more two.rest in
          let past : x ≤ next.1.last = omega (arith, two.ends) in
          rw (here, a.0, or_twice (last_started n more) next range)
          (rw a.0 at (reached x n next more two.rest a.0 past))
      | inr a ↦ rw (here, a.0) (le-leb _ _ back)
    ]

shares_step : (range other next : ℕ × RangeRest) (more : List (ℕ × RangeRest))
    → range.0 ≤ range.1.last
    → AreApart other next more
    → list_any (share_number range) (next ∷ more)
    ≡ reaches range.0 (last_started range.1.last (next ∷ more))
    → ((nat_le range.0 other.1.last ≡ true) × (range.0 ≤ other.1.last))
    ⊎ ((nat_le range.0 other.1.last ≡ false) × (other.1.last < range.0))
    → ((nat_le other.0 range.1.last ≡ true) × (other.0 ≤ range.1.last))
    ⊎ ((nat_le other.0 range.1.last ≡ false) × (range.1.last < other.0))
    → ((nat_le next.0 range.1.last ≡ true) × (next.0 ≤ range.1.last))
    ⊎ ((nat_le next.0 range.1.last ≡ false) × (range.1.last < next.0))
    → list_any (share_number range) (other ∷ next ∷ more)
    ≡ reaches range.0 (last_started range.1.last (other ∷ next ∷ more))
shares_step range other next more order two ih back (inr a) nexts =
    let later : nat_le next.0 range.1.last ≡ false =
    grind (arith, nat_tests, two.begins, two.ends) in
    let none : list_any (share_number range) (next ∷ more) ≡ false = ih ∙ rw later in
    rw (a.0, none, and-false (nat_le range.0 other.1.last))
shares_step range other next more order two ih (inl b) (inl a) (inl d) =
    let all : reaches range.0 (last_started range.1.last (next ∷ more)) ≡ true =
    reached range.0 range.1.last next more two.rest d.0
    (omega (arith, two.ends, begins_first next more two.rest)) in
    let same : reaches range.0 (option_or (last_started range.1.last more) (Some next)) ≡ true =
    rw d.0 at all in
    rw (a.0, b.0, d.0, or_twice (last_started range.1.last more) next other) (sym same)
shares_step range other next more order two ih (inr b) (inl a) (inl d) =
    let some : last_started range.1.last (next ∷ more)
    ≡ option_or (last_started range.1.last more) (Some next) = rw d.0 in
    let same : last_started range.1.last (next ∷ more)
    ≡ option_or (last_started range.1.last (next ∷ more)) (Some other) =
    some ∙ sym (or_twice (last_started range.1.last more) next other)
    ∙ ap (λ o. option_or o (Some other)) (sym some) in
    rw (a.0, b.0) (ih ∙ ap (reaches range.0) same)
shares_step range other next more order two ih back (inl a) (inr d) =
    let none : list_any (share_number range) (next ∷ more) ≡ false = ih ∙ rw d.0 in
    rw (
      none,
      a.0,
      d.0,
      and-true (nat_le range.0 other.1.last),
      or-false (nat_le range.0 other.1.last),
    )

-- a range shares a number with one of those that stand apart if the last one that begins no later
-- than it ends reaches back to it
pub shares-last_started : (range : ℕ × RangeRest) (ranges : List (ℕ × RangeRest))
    → range.0 ≤ range.1.last
    → are_disjoint ranges ≡ true
    → list_any (share_number range) ranges ≡ reaches range.0 (last_started range.1.last ranges)
shares-last_started range [] order holds = refl
shares-last_started range (other ∷ []) order holds = elim (leb_tells other.0 range.1.last) [
  | inl a ↦ rw (a.0, and-true (nat_le range.0 other.1.last), or-false (nat_le range.0 other.1.last))
  | inr a ↦ rw (a.0, and-false (nat_le range.0 other.1.last))
]
shares-last_started range (other ∷ next ∷ more) order holds =
    shares_step range other next more order (apart other next more holds)
    (shares-last_started range (next ∷ more) order (rest_holds other (next ∷ more) holds))
    (leb_tells range.0 other.1.last) (leb_tells other.0 range.1.last)
    (leb_tells next.0 range.1.last)

cons_holds : (range next : ℕ × RangeRest) (more : List (ℕ × RangeRest)) → range.0 ≤ range.1.last
    → range.1.last < next.0 → are_disjoint (next ∷ more) ≡ true
    → are_disjoint (range ∷ next ∷ more) ≡ true
cons_holds range next more begins ends rest =
    let first : nat_le range.0 range.1.last ≡ true = grind (arith, nat_tests) in
    let second : nat_lt range.1.last next.0 ≡ true = grind (arith, nat_tests) in
    rw (first, second, rest)

-- a range that shares no number with another ends before it or begins after it
pub free_apart : (range other : ℕ × RangeRest) → share_number range other ≡ false
    → (range.1.last < other.0) ⊎ (other.1.last < range.0)
free_apart range other free = elim (leb_tells range.0 other.1.last) [
  | inl a ↦ elim (leb_tells other.0 range.1.last) [
    | inl b ↦ let both : true ≡ false = rw (a.0, b.0) at free in absurd (false≢true (sym both))
    | inr b ↦ inl b.1
  ]
  | inr a ↦ inr a.1
]

pub comes_before : (range other : ℕ × RangeRest) → range.0 ≤ range.1.last → range.1.last < other.0
    → nat_cmp range.0 other.0 ≡ Less
comes_before range other order before = sym (nat_cmp_is range.0 other.0 Less (omega arith))

pub comes_after : (range other : ℕ × RangeRest) → other.0 ≤ other.1.last → other.1.last < range.0
    → nat_cmp range.0 other.0 ≡ Greater
comes_after range other order after = sym (nat_cmp_is range.0 other.0 Greater (omega arith))

-- the ranges and one more, at its place
unfoldable pub with_one : ℕ × RangeRest → List (ℕ × RangeRest) → List (ℕ × RangeRest)
with_one range ranges = insert_entry nat_cmp ranges range.0 range.1

one_before : (range other : ℕ × RangeRest) (more : List (ℕ × RangeRest))
    → nat_cmp range.0 other.0 ≡ Less
    → with_one range (other ∷ more) ≡ range ∷ other ∷ more
unfolding with_one
one_before range other more less = rw less

one_after : (range other : ℕ × RangeRest) (more : List (ℕ × RangeRest))
    → nat_cmp range.0 other.0 ≡ Greater
    → with_one range (other ∷ more) ≡ other ∷ with_one range more
unfolding with_one
one_after range other more greater = rw greater

-- before ranges that go on with a new one stands a range that ends before both
cons_with_one : (first range next : ℕ × RangeRest) (more : List (ℕ × RangeRest))
    → first.0 ≤ first.1.last
    → first.1.last < range.0 → first.1.last < next.0
    → range.0 ≤ range.1.last → next.0 ≤ next.1.last → share_number range next ≡ false
    → are_disjoint (with_one range (next ∷ more)) ≡ true
    → are_disjoint (first ∷ with_one range (next ∷ more)) ≡ true
cons_with_one first range next more begins ends further order onward free holds =
    elim (free_apart range next free) [
      | inl a ↦
          let same = one_before range next more (comes_before range next order a) in
          rw same (cons_holds first range (next ∷ more) begins ends (rw same at holds))
      | inr a ↦
          let same = one_after range next more (comes_after range next onward a) in
          rw same (cons_holds first next (with_one range more) begins further (rw same at holds))
    ]

holds-with_one : (range other : ℕ × RangeRest) (more : List (ℕ × RangeRest))
    → range.0 ≤ range.1.last
    → are_disjoint (other ∷ more) ≡ true
    → list_any (share_number range) (other ∷ more) ≡ false
    → are_disjoint (with_one range (other ∷ more)) ≡ true
unfolding with_one
holds-with_one range other [] order holds free =
    let begins : other.0 ≤ other.1.last = begins_first other [] holds in
    elim (free_apart range other (or_parts (share_number range other) false free).0) [
      | inl a ↦ rw (one_before range other [] (comes_before range other order a))
          (cons_holds range other [] order a holds)
      | inr a ↦ rw (one_after range other [] (comes_after range other begins a))
          (cons_holds other range [] begins a (le-leb _ _ order))
    ]
holds-with_one range other (next ∷ more) order holds free =
    let two = apart other next more holds in
    let apart_from = or_parts (share_number range other)
    (list_any (share_number range) (next ∷ more)) free in
    let later = or_parts (share_number range next) (list_any (share_number range) more)
    apart_from.1 in
    elim (free_apart range other apart_from.0) [
      | inl a ↦ rw (one_before range other (next ∷ more) (comes_before range other order a))
          (cons_holds range other (next ∷ more) order a holds)
      | inr a ↦ rw (one_after range other (next ∷ more) (comes_after range other two.begins a))
          (cons_with_one other range next more two.begins a two.ends order
          (begins_first next more two.rest) later.0
          (holds-with_one range next more order two.rest apart_from.1))
    ]

-- ranges that stand apart stay so with a range that shares no number with them
pub holds-insert : (range : ℕ × RangeRest) (ranges : List (ℕ × RangeRest)) → range.0 ≤ range.1.last
    → are_disjoint ranges ≡ true
    → list_any (share_number range) ranges ≡ false
    → are_disjoint (insert_entry nat_cmp ranges range.0 range.1) ≡ true
unfolding with_one
holds-insert range [] order holds free = le-leb _ _ order
holds-insert range (other ∷ more) order holds free =
    holds-with_one range other more order holds free

known_step : (count : ℕ) (range other : ℕ × RangeRest) (more : List (ℕ × RangeRest)) (o : Ordering)
    → nat_lt range.1.mode count ≡ true → are_modes_below count (other ∷ more) ≡ true
    → are_modes_below count (insert_entry nat_cmp more range.0 range.1) ≡ true
    → are_modes_below count
    (match_ordering o (range ∷ other ∷ more) ((other.0, range.1) ∷ more) (other
    ∷ insert_entry nat_cmp more range.0 range.1)) ≡ true
known_step count range other more Less known all later = rw known all
known_step count range other more Equal known all later =
    rw known (and_parts (nat_lt other.1.mode count) (are_modes_below count more) all).1
known_step count range other more Greater known all later =
    rw ((and_parts (nat_lt other.1.mode count) (are_modes_below count more) all).0) later

-- one more range of a mode of the table
pub known-insert : (count : ℕ) (range : ℕ × RangeRest) (ranges : List (ℕ × RangeRest))
    → range.1.mode < count
    → are_modes_below count ranges ≡ true
    → are_modes_below count (insert_entry nat_cmp ranges range.0 range.1) ≡ true
known-insert count range [] below all = let known : nat_lt range.1.mode count ≡ true =
    grind (arith, nat_tests) in rw known
known-insert count range (other ∷ more) below all =
    let known : nat_lt range.1.mode count ≡ true = grind (arith, nat_tests) in
    known_step count range other more (nat_cmp range.0 other.0) known all
    (known-insert count range more below
    (and_parts (nat_lt other.1.mode count) (are_modes_below count more) all).1)
