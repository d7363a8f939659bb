-- Files whose taps are in canonical order.
use Rattle.sorted_taps.specs.{Reading.AreTapsBetween, declared.fault.SortedFault.SortedFault}
use Rattle.sorted_taps.specs.declared.fault.SortedFault.TheVariants.{Layout, OutOfOrder}
use Rattle.std.specs.{List.Sorted.IsSorted, Ordering.is_lt}
use Rattle.std.specs.Prelude.{◌≡◌, ℕ, ◌+◌, List, [], ◌∷◌, ◌++◌, length, map, true, Some}
use Rattle.tap_parts.specs.Canonical.{tap_cmp}
use Rattle.tap_views.specs.{Encoding.fields_of, Files.IsReadAs, Files.taps_of_batches}
use Rattle.tap_views.specs.{Files.IsFileOf, Layout.Tap}
use Rattle.tap_views.specs.declared.{encoder.TapFields.TapFields, fault.LayoutFault.LayoutFault}

-- the file is read as these taps with no layout fault, and they are in canonical order
pub record IsSortedFile (all : List ℕ) (taps : List TapFields) : Type 0 where
  pub read : IsFileOf all taps
  pub sorted : IsSorted tap_cmp taps

-- the file begins with batches in which the tap at this index, counted from 0, is before its
-- predecessor, and none before it is
pub record IsOutOfOrderAt (all : List ℕ) (tap : ℕ) : Type 0 where
  pub to : ℕ
  pub earlier : List TapFields
  pub last : TapFields
  pub next : TapFields
  pub later : List TapFields
  pub between : AreTapsBetween all 0 to (earlier ++ last ∷ next ∷ later)
  pub sorted : IsSorted tap_cmp (earlier ++ last ∷ [])
  pub before : is_lt (tap_cmp next last) ≡ true
  pub number : tap ≡ length earlier + 1

-- the file's taps up to its first layout fault are in canonical order, and this is the fault, with
-- the offset of its batch
pub record IsDamagedAt (all : List ℕ) (offset : ℕ) (fault : LayoutFault) : Type 0 where
  pub batches : List (List Tap)
  pub read : IsReadAs all batches (Some (offset, fault))
  pub sorted : IsSorted tap_cmp (map fields_of (taps_of_batches batches))

-- why the file is not one of taps in canonical order: the first fault of order or layout
abbrev pub IsSortedFault : List ℕ → SortedFault → Type 0
IsSortedFault all (OutOfOrder tap) = IsOutOfOrderAt all tap
IsSortedFault all (Layout offset fault) = IsDamagedAt all offset fault
IsSortedFault all fault = Unit {0}
