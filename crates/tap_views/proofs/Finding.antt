-- The first row of the table that holds is found by asking them in turn.
use Rattle.std.proofs.Common.{◌≡◌, ◌⊎◌, ℕ, zero, suc, ◌+◌, ◌<◌, ◌≤◌, not, ◌||◌, Bool, true, false}
use Rattle.std.proofs.Common.{List, length, map, take, codes, Some, None, refl, sym, ap, ◌∙◌, inl}
use Rattle.std.proofs.Common.{inr, arith}
use Rattle.std.proofs.lemmas.Bool.{eqb-true, eqb-false, ltb-true, lt-ltb, le-ltb, cases_lt}
use Rattle.std.proofs.lemmas.{Bool.not-true, Bool.or_parts, Slice.Eq.bytes_eq-Decides}
use Rattle.std.specs.{List.range_with_len, Prelude.find, Str.bytes_eq}
use Rattle.tap_views.specs.Faults.{header, layout_in, count_in, flags_in, size_in, moment_in, Row}
use Rattle.tap_views.specs.{Faults.IsFault, Layout.moment_limit}
use Rattle.tap_views.specs.declared.fault.LayoutFault.{LayoutFault}
use Rattle.tap_views.specs.declared.fault.LayoutFault.TheVariants.{Short, Magic, Flags, TooMany}
use Rattle.tap_views.specs.declared.fault.LayoutFault.TheVariants.{Length, Moment}
use Rattle.tap_views.specs.inside.{Faults.AllEarly, Readings.is_row, Readings.found_fault}

-- a test for something false is false
tests_false : {P : Type 0} (b : Bool) → (b ≡ true → P) → ¬ P → b ≡ false
tests_false true tells never = absurd (never (tells refl))
tests_false false tells never = refl

module _ (bytes : List ℕ) where
  same_true : (xs ys : List ℕ) → xs ≡ ys → bytes_eq xs ys ≡ true
  same_true xs ys = (bytes_eq-Decides xs ys).1

  unknown : is_row bytes Magic ≡ true → Row Magic bytes
  unknown is =
      let never = or_parts (bytes_eq (take 4 bytes) (codes "TAP1"))
      (bytes_eq (take 4 bytes) (codes "TAP2")) (not-true _ is) in (
        λ one. let yes = same_true (take 4 bytes) (codes "TAP1") one in
            let same : true ≡ false = sym yes ∙ never.0 in cc,
        λ two. let yes = same_true (take 4 bytes) (codes "TAP2") two in
            let same : true ≡ false = sym yes ∙ never.1 in cc,
      )

  known_not : (b c : Bool) → b ≡ false → c ≡ false → not (b || c) ≡ true
  known_not b c never nor = rw (never, nor) refl

  no_short : ¬ (Row (Short (length bytes)) bytes) → is_row bytes (Short (length bytes)) ≡ false
  no_short never = tests_false _ (λ is.
      (refl, ltb-true (length bytes) (header (layout_in bytes)) is)) never

  no_magic : ¬ (Row Magic bytes) → is_row bytes Magic ≡ false
  no_magic never = tests_false _ unknown never

  no_flags : ¬ (Row Flags bytes) → is_row bytes Flags ≡ false
  no_flags never = tests_false _ (λ is. eqb-false (flags_in bytes) 0 (not-true _ is)) never

  no_many : ¬ (Row (TooMany (count_in bytes)) bytes)
      → is_row bytes (TooMany (count_in bytes)) ≡ false
  no_many never = tests_false _ (λ is. (refl, ltb-true 4096 (count_in bytes) is)) never

  no_length : ¬ (Row (Length (size_in bytes) (length bytes)) bytes)
      → is_row bytes (Length (size_in bytes) (length bytes)) ≡ false
  no_length never = tests_false _ (λ is. (refl, refl, ltb-true (length bytes) (size_in bytes) is))
      never

  early_row : (i : ℕ) → moment_in bytes i < moment_limit → is_row bytes (Moment i) ≡ false
  early_row i early = ap not (lt-ltb (moment_in bytes i) moment_limit early)

  late_row : (i : ℕ) → moment_limit ≤ moment_in bytes i → is_row bytes (Moment i) ≡ true
  late_row i late = ap not (le-ltb (moment_in bytes i) moment_limit late)

  -- no moment from k on is late
  find-early : (k n : ℕ) → ((i : ℕ) → i < k + n → moment_in bytes i < moment_limit)
      → find (is_row bytes) (map Moment (range_with_len k n)) ≡ None
  find-early k zero early = refl
  find-early k (suc n) early =
      rw (early_row k (early k (omega arith)))
      (find-early (k + 1) n (λ i below. early i (omega (arith, below))))

  -- the first late moment from k on
  find-late : (k n index : ℕ) → k ≤ index → index < k + n → moment_limit ≤ moment_in bytes index
      → AllEarly bytes index
      → find (is_row bytes) (map Moment (range_with_len k n)) ≡ Some (Moment index)
  find-late k zero index from below late early = absurd (omega (arith, from, below))
  find-late k (suc n) index from below late early =
      go (cases_lt k index) (λ less.
      find-late (k + 1) n index (omega (arith, less)) (omega (arith, below)) late early)
    where
      go : (k < index) ⊎ (index ≤ k)
          → (k < index → find (is_row bytes) (map Moment (range_with_len (k + 1) n))
          ≡ Some (Moment index))
          → find (is_row bytes) (map Moment (range_with_len k (suc n))) ≡ Some (Moment index)
      go (inl less) more = rw (early_row k (early k less)) (more less)
      go (inr here) more = let same : k ≡ index = omega (arith, from, here) in
          rw (same, late_row index late) refl

  -- if no row holds, none is found
  pub first_fault-none : ((fault : LayoutFault) → ¬ (Row fault bytes))
      → AllEarly bytes (count_in bytes) → found_fault bytes ≡ None
  first_fault-none none early =
      let short = no_short (none (Short (length bytes))) in
      let magic = no_magic (none Magic) in
      let flags = no_flags (none Flags) in
      let many = no_many (none (TooMany (count_in bytes))) in
      let cut_off = no_length (none (Length (size_in bytes) (length bytes))) in
      rw (short, magic, flags, many, cut_off)
      (find-early 0 (count_in bytes) (λ i below. early i (omega (arith, below))))

  -- the first row that holds is found
  pub first_fault-some : (fault : LayoutFault) → IsFault bytes fault
      → found_fault bytes ≡ Some fault
  first_fault-some (Short have) is =
      let this = lt-ltb (length bytes) (header (layout_in bytes)) is.holds.1 in
      rw (this, is.holds.0) refl
  first_fault-some Magic is =
      let short = no_short (is.first (Short (length bytes)) (omega arith)) in
      let this : is_row bytes Magic ≡ true = known_not _ _
      (tests_false _ (λ yes. (bytes_eq-Decides (take 4 bytes) (codes "TAP1")).0 yes) is.holds.0)
      (tests_false _ (λ yes. (bytes_eq-Decides (take 4 bytes) (codes "TAP2")).0 yes) is.holds.1) in
      rw (short, this) refl
  first_fault-some Flags is =
      let short = no_short (is.first (Short (length bytes)) (omega arith)) in
      let magic = no_magic (is.first Magic (omega arith)) in
      let this : is_row bytes Flags ≡ true =
      ap not (tests_false _ (λ yes. eqb-true (flags_in bytes) 0 yes) is.holds) in
      rw (short, magic, this) refl
  first_fault-some (TooMany count) is =
      let short = no_short (is.first (Short (length bytes)) (omega arith)) in
      let magic = no_magic (is.first Magic (omega arith)) in
      let flags = no_flags (is.first Flags (omega arith)) in
      let this = lt-ltb 4096 (count_in bytes) (omega (arith, is.holds.0, is.holds.1)) in
      rw (short, magic, flags, this, is.holds.0) refl
  first_fault-some (Length want have) is =
      let short = no_short (is.first (Short (length bytes)) (omega arith)) in
      let magic = no_magic (is.first Magic (omega arith)) in
      let flags = no_flags (is.first Flags (omega arith)) in
      let many = no_many (is.first (TooMany (count_in bytes)) (omega arith)) in
      let this = lt-ltb (length bytes) (size_in bytes)
      (omega (arith, is.holds.0, is.holds.1, is.holds.2)) in
      rw (short, magic, flags, many, this, is.holds.0, is.holds.1) refl
  first_fault-some (Moment index) is =
      let short = no_short (is.first (Short (length bytes)) (omega arith)) in
      let magic = no_magic (is.first Magic (omega arith)) in
      let flags = no_flags (is.first Flags (omega arith)) in
      let many = no_many (is.first (TooMany (count_in bytes)) (omega arith)) in
      let cut_off = no_length (is.first (Length (size_in bytes) (length bytes)) (omega arith)) in
      rw (short, magic, flags, many, cut_off)
      (find-late 0 (count_in bytes) index (omega arith) (omega (arith, is.holds.0)) is.holds.1
      is.holds.2)
