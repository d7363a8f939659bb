-- Readers of a file's taps: where one is, and how it goes on.
use Rattle.sorted_taps.specs.{Reading.AreTapsBetween, declared.fault.SortedFault.SortedFault}
use Rattle.sorted_taps.specs.declared.fault.SortedFault.TheVariants.{Layout, OutOfOrder}
use Rattle.sorted_taps.specs.declared.reader.TapReader.{TapReader}
use Rattle.std.specs.{List.Sorted.IsSorted, Ordering.is_lt}
use Rattle.std.specs.Prelude.{◌≡◌, ℕ, ◌+◌, ◌<◌, List, [], ◌∷◌, ◌++◌, length, take, drop, true}
use Rattle.tap_parts.specs.Canonical.{tap_cmp}
use Rattle.tap_views.specs.Faults.{IsFault}
use Rattle.tap_views.specs.declared.{encoder.TapFields.TapFields, fault.LayoutFault.LayoutFault}

-- the taps in memory from the one on at which the reader is
abbrev pub ahead : TapReader → List TapFields
ahead reader = drop reader.next reader.taps.items

-- the file's taps between two offsets are those that were passed and those in memory, and none is
-- before its predecessor up to the first in memory; there is none only at the file's end
pub record AreRead (all : List ℕ) (from to : ℕ) (passed next : List TapFields) : Type 0 where
  pub between : AreTapsBetween all from to (passed ++ next)
  pub sorted : IsSorted tap_cmp (passed ++ take 1 next)
  pub end : next ≡ [] → drop to all ≡ []

-- the reader began at an offset, and has passed these taps
abbrev pub IsPositionedIn : List ℕ → ℕ → List TapFields → TapReader → Type 0
IsPositionedIn all from passed reader =
    AreRead all from reader.offset passed (ahead reader) × (reader.passed ≡ length passed)

-- the reader has passed this run of its file's taps, which are in order up to the tap at which it
-- is now
pub record IsPassed (all : List ℕ) (old : TapReader) (run : List TapFields) (new : TapReader)
    : Type 0 where
  pub read : List TapFields
  pub between : AreTapsBetween all old.offset new.offset read
  pub goes_on : ahead old ++ read ≡ run ++ ahead new
  pub first : take 1 (run ++ ahead new) ≡ take 1 (ahead old)
  pub sorted : IsSorted tap_cmp (run ++ take 1 (ahead new))
  pub end : (ahead old ≡ [] → drop old.offset all ≡ []) → ahead new ≡ [] → drop new.offset all ≡ []
  pub number : new.passed ≡ old.passed + length run

-- the file goes on after the tap at which the reader was with one that is before it, and which
-- has this number
pub record IsNextBefore (all : List ℕ) (old : TapReader) (number : ℕ) : Type 0 where
  pub to : ℕ
  pub tap : TapFields
  pub read : List TapFields
  pub next : TapFields
  pub later : List TapFields
  pub stood : take 1 (ahead old) ≡ tap ∷ []
  pub between : AreTapsBetween all old.offset to read
  pub goes_on : ahead old ++ read ≡ tap ∷ next ∷ later
  pub before : is_lt (tap_cmp next tap) ≡ true
  pub counted : number ≡ old.passed + 1

-- after the offset are batches of no taps, and then bytes with this layout fault
pub record IsDamagedAfter (all : List ℕ) (from at : ℕ) (fault : LayoutFault) : Type 0 where
  pub between : AreTapsBetween all from at []
  pub some : 0 < length (drop at all)
  pub is_fault : IsFault (drop at all) fault

-- why a reader does not come to a tap after this offset
abbrev pub IsAfterFault : List ℕ → ℕ → SortedFault → Type 0
IsAfterFault all from (OutOfOrder tap) = ⊥
IsAfterFault all from (Layout at fault) = IsDamagedAfter all from at fault
IsAfterFault all from fault = Unit {0}

-- why a reader does not go on: the next tap is before the one at which it is, or it is at
-- the last tap in front of a layout fault
abbrev pub IsStepFault : List ℕ → TapReader → SortedFault → Type 0
IsStepFault all old (OutOfOrder number) = IsNextBefore all old number
IsStepFault all old (Layout at fault) =
    (length (ahead old) ≡ 1) × IsDamagedAfter all old.offset at fault
IsStepFault all old fault = Unit {0}
