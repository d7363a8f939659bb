-- Several files that are checked, one after the other.
use Rattle.sorted_taps.specs.{Merges.AreSortedFiles, Sorted.IsSortedFile, Sorted.IsSortedFault}
use Rattle.sorted_taps.specs.declared.fault.{FileFault.FileFault, MergeFault.MergeFault}
use Rattle.sorted_taps.specs.declared.fault.{MergeFault.TheVariants.File, SortedFault.SortedFault}
use Rattle.std.specs.Prelude.{◌≡◌, ℕ, ◌<◌, List, [], Option, Some, length, get_or, map, slice_get}
use Rattle.tap_views.specs.declared.encoder.TapFields.{TapFields}

-- each file is sorted, and the numbers are those of their taps
pub record AreCountedFiles (files : List (List ℕ)) (numbers : List ℕ) : Type 0 where
  pub lists : List (List TapFields)
  pub sorted : AreSortedFiles files lists
  pub counted : numbers ≡ map length lists

-- the files below the index are sorted
abbrev pub AreSortedBelow : List (List ℕ) → ℕ → Type 0
AreSortedBelow files index =
    (k : ℕ) → k < index → (taps : List TapFields) × IsSortedFile (get_or files k []) taps

-- the file at the index is the first that is not sorted, for this reason
pub record IsFirstFault (files : List (List ℕ)) (fault : FileFault) : Type 0 where
  pub within : fault.index < length files
  pub earlier : AreSortedBelow files fault.index
  pub is_fault : IsSortedFault (get_or files fault.index []) fault.fault

-- Of files under these names, of which this is known, the one of this name is the first that is not
-- sorted, for this reason.
pub record IsFirstUnsorted (names : List (List ℕ)) (known : List (Option (List ℕ)))
    (name : List ℕ) (fault : SortedFault) : Type 0 where
  pub index : ℕ
  pub named : slice_get names index ≡ Some name
  pub first : (files : List (List ℕ)) → known ≡ map Some files
      → IsFirstFault files (record { index = index; fault = fault })

-- why files are not merged: the first of them that is not sorted; that a read, a write or a growth
-- of memory failed says nothing of them
abbrev pub IsMergeFault : List (List ℕ) → MergeFault → Type 0
IsMergeFault files (File fault) = IsFirstFault files fault
IsMergeFault files fault = Unit {0}
