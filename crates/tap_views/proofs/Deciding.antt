-- Bytes begin with a batch or have a fault, and not two faults.
use Rattle.std.proofs.Common.{◌≡◌, ◌⊎◌, ℕ, zero, suc, ◌*◌, ◌<◌, ◌≤◌, Bool, true, false, List, ◌++◌}
use Rattle.std.proofs.Common.{length, take, drop, codes, refl, sym, ap, ◌∙◌, inl, inr, arith}
use Rattle.std.proofs.lemmas.{Bool.cases_lt, Slice.Eq.bytes_eq-Decides}
use Rattle.std.specs.{Bool.Decides, Str.bytes_eq}
use Rattle.tap_views.proofs.Grammar.{found}
use Rattle.tap_views.specs.Faults.{header, width, layout_in, count_in, flags_in, size_in, moment_in}
use Rattle.tap_views.specs.{Faults.Row, Faults.fault_order, Faults.IsFault, Layout.moment_limit}
use Rattle.tap_views.specs.{Layout.Tap, Layout.IsBatch, declared.fault.LayoutFault.LayoutFault}
use Rattle.tap_views.specs.declared.fault.LayoutFault.TheVariants.{Short, Magic, Flags, TooMany}
use Rattle.tap_views.specs.declared.fault.LayoutFault.TheVariants.{Length, Moment}
use Rattle.tap_views.specs.inside.{Faults.AllEarly, Faults.IsMeasured, Records.taps_in}

-- ---- one fault
same_position : (bytes : List ℕ) (f g : LayoutFault) → fault_order f ≡ fault_order g → Row f bytes
    → Row g bytes
    → f ≡ g
same_position bytes (Short a) (Short b) same r s = ap Short (r.0 ∙ sym s.0)
same_position bytes Magic Magic same r s = refl
same_position bytes Flags Flags same r s = refl
same_position bytes (TooMany a) (TooMany b) same r s = ap TooMany (r.0 ∙ sym s.0)
same_position bytes (Length a b) (Length c d) same r s =
    let want : a ≡ c = r.0 ∙ sym s.0 in
    let have : b ≡ d = r.1 ∙ sym s.1 in
    rw (want, have) refl
same_position bytes (Moment i) (Moment j) same r s =
    let no_less : ¬ (i < j) = λ less. omega (arith, s.2 i less, r.1) in
    let no_more : ¬ (j < i) = λ more. omega (arith, r.2 j more, s.1) in
    ap Moment (omega (arith, no_less, no_more))
same_position bytes f g same r s = absurd (omega (arith, same))

-- bytes have one first fault
pub same_fault : (bytes : List ℕ) (f g : LayoutFault) → IsFault bytes f → IsFault bytes g → f ≡ g
same_fault bytes f g one other =
    let no_less : ¬ (fault_order f < fault_order g) = λ less. other.first f less one.holds in
    let no_more : ¬ (fault_order g < fault_order f) = λ more. one.first g more other.holds in
    same_position bytes f g (omega (arith, no_less, no_more)) one.holds other.holds

-- ---- a batch or a fault
module _ (bytes : List ℕ) where
  -- no row before a place holds, if what those rows ask does not
  pub rows_before : (p : ℕ) → p ≤ 6 → (1 < p → header (layout_in bytes) ≤ length bytes)
      → (2 < p → (take 4 bytes ≡ codes "TAP1") ⊎ (take 4 bytes ≡ codes "TAP2"))
      → (3 < p → flags_in bytes ≡ 0)
      → (4 < p → count_in bytes ≤ 4096) → (5 < p → size_in bytes ≤ length bytes)
      → (other : LayoutFault) → fault_order other < p → ¬ (Row other bytes)
  rows_before p last whole known no_flags few long (Short have) before row =
      omega (arith, whole before, row.1)
  rows_before p last whole known no_flags few long Magic before row =
      elim (known before) [ inl is ↦ row.0 is | inr is ↦ row.1 is ]
  rows_before p last whole known no_flags few long Flags before row = row (no_flags before)
  rows_before p last whole known no_flags few long (TooMany count) before row =
      omega (arith, few before, row.0, row.1)
  rows_before p last whole known no_flags few long (Length want have) before row =
      omega (arith, long before, row.0, row.1, row.2)
  rows_before p last whole known no_flags few long (Moment index) before row =
      omega (arith, last, before)

  abbrev Late : ℕ → Type 0
  Late n = (index : ℕ) × (index < n) × (moment_limit ≤ moment_in bytes index) × AllEarly bytes index

  late_or_early : (n : ℕ) → Late n ⊎ AllEarly bytes n
  late_or_early zero = inr (λ index below. absurd (omega arith))
  late_or_early (suc n) = elim (late_or_early n) [
    | inl late ↦ inl (late.0, omega (arith, late.1), late.2, late.3)
    | inr early ↦
        elim (cases_lt (moment_in bytes n) moment_limit) [
          | inl below ↦ inr (λ index within. elim (cases_lt index n) [
            | inl less ↦ early index less
            | inr more ↦
                let same : index ≡ n = omega arith in rw same below
          ])
          | inr late ↦ inl (n, omega arith, late, early)
        ]
  ]

same_or_not : (xs ys : List ℕ) → (xs ≡ ys) ⊎ (¬ (xs ≡ ys))
same_or_not xs ys = go (bytes_eq xs ys) (bytes_eq-Decides xs ys)
  where
    go : (b : Bool) → Decides b (xs ≡ ys) → (xs ≡ ys) ⊎ (¬ (xs ≡ ys))
    go true is = inl (is.0 refl)
    go false is = inr (λ same. let no : false ≡ true = is.1 same in cc)

-- what bytes are found to be
abbrev pub Found : List ℕ → Type 0
Found bytes = ((front : List ℕ) × (taps : List Tap) × (rest : List ℕ) × IsBatch front taps
    × (bytes ≡ front ++ rest)) ⊎ ((fault : LayoutFault) × IsFault bytes fault)

module _ (bytes : List ℕ) where
  abbrev IsKnown : Type 0
  IsKnown = (take 4 bytes ≡ codes "TAP1") ⊎ (take 4 bytes ≡ codes "TAP2")

  measured : IsMeasured bytes (count_in bytes) → Found bytes
  measured is = let (front, batch, whole) = found bytes (count_in bytes) is in
      inl (
        front,
        taps_in (layout_in bytes) (count_in bytes)
            (drop (header (layout_in bytes)) bytes),
        drop (width (layout_in bytes) * count_in bytes)
            (drop (header (layout_in bytes)) bytes),
        (layout_in bytes, batch),
        whole,
      )

  from_moments : header (layout_in bytes) ≤ length bytes → IsKnown → flags_in bytes ≡ 0
      → count_in bytes ≤ 4096 → size_in bytes ≤ length bytes
      → Late bytes (count_in bytes) ⊎ AllEarly bytes (count_in bytes) → Found bytes
  from_moments whole known no_flags few long (inl late) = inr (
    Moment late.0,
    record {
      holds = (late.1, late.2, late.3);
      first = rows_before bytes 6 (omega arith) (λ _. whole) (λ _. known) (λ _. no_flags) (λ _.
          few) (λ _. long);
    },
  )
  from_moments whole known no_flags few long (inr early) =
      measured (record {
        sound = record
            { whole = whole; known = known; no_flags = no_flags; count = refl; most = few };
        whole = long;
        early = early;
      })

  from_length : header (layout_in bytes) ≤ length bytes → IsKnown → flags_in bytes ≡ 0
      → count_in bytes ≤ 4096
      → (length bytes < size_in bytes) ⊎ (size_in bytes ≤ length bytes) → Found bytes
  from_length whole known no_flags few (inl cut_off) = inr (
    Length (size_in bytes) (length bytes),
    record {
      holds = (refl, refl, cut_off);
      first = rows_before bytes 5 (omega arith) (λ _. whole) (λ _. known) (λ _. no_flags) (λ _.
          few) (λ no. absurd (omega (arith, no)));
    },
  )
  from_length whole known no_flags few (inr long) =
      from_moments whole known no_flags few long (late_or_early bytes (count_in bytes))

  from_count : header (layout_in bytes) ≤ length bytes → IsKnown → flags_in bytes ≡ 0
      → (4096 < count_in bytes) ⊎ (count_in bytes ≤ 4096) → Found bytes
  from_count whole known no_flags (inl many) = inr (
    TooMany (count_in bytes),
    record {
      holds = (refl, many);
      first = rows_before bytes 4 (omega arith) (λ _. whole) (λ _. known) (λ _. no_flags) (λ no.
          absurd (omega (arith, no))) (λ no. absurd (omega (arith, no)));
    },
  )
  from_count whole known no_flags (inr few) =
      from_length whole known no_flags few (cases_lt (length bytes) (size_in bytes))

  from_flags : header (layout_in bytes) ≤ length bytes → IsKnown → (0 < flags_in bytes)
      ⊎ (flags_in bytes ≤ 0) → Found bytes
  from_flags whole known (inl flags) = inr (
    Flags,
    record {
      holds = λ none. omega (arith, none, flags);
      first = rows_before bytes 3 (omega arith) (λ _. whole) (λ _. known) (λ no.
          absurd (omega (arith, no))) (λ no. absurd (omega (arith, no))) (λ no.
          absurd (omega (arith, no)));
    },
  )
  from_flags whole known (inr none) =
      from_count whole known (omega (arith, none)) (cases_lt 4096 (count_in bytes))

  from_magic : header (layout_in bytes) ≤ length bytes → IsKnown
      ⊎ (¬ (take 4 bytes ≡ codes "TAP1") × ¬ (take 4 bytes ≡ codes "TAP2")) → Found bytes
  from_magic whole (inl known) = from_flags whole known (cases_lt 0 (flags_in bytes))
  from_magic whole (inr unknown) = inr (
    Magic,
    record {
      holds = unknown;
      first = rows_before bytes 2 (omega arith) (λ _. whole) (λ no. absurd (omega (arith, no)))
          (λ no. absurd (omega (arith, no))) (λ no. absurd (omega (arith, no))) (λ no.
          absurd (omega (arith, no)));
    },
  )

  known_or_not : (take 4 bytes ≡ codes "TAP1") ⊎ (¬ (take 4 bytes ≡ codes "TAP1"))
      → (take 4 bytes ≡ codes "TAP2") ⊎ (¬ (take 4 bytes ≡ codes "TAP2"))
      → IsKnown ⊎ (¬ (take 4 bytes ≡ codes "TAP1") × ¬ (take 4 bytes ≡ codes "TAP2"))
  known_or_not (inl one) other = inl (inl one)
  known_or_not (inr not_one) (inl two) = inl (inr two)
  known_or_not (inr not_one) (inr not_two) = inr (not_one, not_two)

  from_header : (length bytes < header (layout_in bytes))
      ⊎ (header (layout_in bytes) ≤ length bytes) → Found bytes
  from_header (inl short) = inr (
    Short (length bytes),
    record {
      holds = (refl, short);
      first = rows_before bytes 1 (omega arith) (λ no. absurd (omega (arith, no))) (λ no.
          absurd (omega (arith, no))) (λ no. absurd (omega (arith, no))) (λ no.
          absurd (omega (arith, no))) (λ no. absurd (omega (arith, no)));
    },
  )
  from_header (inr whole) =
      from_magic whole (known_or_not (same_or_not (take 4 bytes) (codes "TAP1"))
      (same_or_not (take 4 bytes) (codes "TAP2")))

-- bytes begin with a batch, or a row of the table is the first that holds
pub decided : (bytes : List ℕ) → Found bytes
decided bytes = from_header bytes (cases_lt (length bytes) (header (layout_in bytes)))
