-- Why sorted files are not charged.
use Rattle.settled_bills.specs.declared.fault.BillFault.{BillFault, TheVariants.Changed}
use Rattle.settled_bills.specs.declared.fault.BillFault.TheVariants.{File, Late, TooManyTaps, Write}
use Rattle.sorted_taps.specs.{Checked.IsFirstFault, Merges.AreSortedFiles}
use Rattle.std.specs.Prelude.{◌≢◌, ◌^◌, ◌<◌, ℕ, List, flat_map, length}
use Rattle.tap_views.specs.declared.encoder.TapFields.{TapFields}

-- the files are sorted, and have more than 2^46 taps
pub record HaveTooManyTaps (files : List (List ℕ)) : Type 0 where
  pub lists : List (List TapFields)
  pub sorted : AreSortedFiles files lists
  pub many : 2 ^ 46 < length (flat_map (λ list. list) lists)

-- why files are not charged: the first of them that is not sorted, or that all have too many taps;
-- that a read, a write or a growth of memory failed says nothing of them
abbrev pub IsBillFault : List (List ℕ) → BillFault → Type 0
IsBillFault files (File fault) = IsFirstFault files fault
IsBillFault files TooManyTaps = HaveTooManyTaps files
IsBillFault files fault = Unit {0}

-- the fault comes before the first byte is written
abbrev pub IsBeforeText : BillFault → Type 0
IsBeforeText Changed = ⊥
IsBeforeText (Late fault) = ⊥
IsBeforeText Write = ⊥
IsBeforeText fault = Unit {0}

-- the fault says nothing of the files, no write failed, and bytes may have been written before
pub record IsLateFault (fault : BillFault) : Type 0 where
  pub says_nothing : (files : List (List ℕ)) → IsBillFault files fault
  pub unwritten : fault ≢ Write
  pub late : IsBeforeText fault → ⊥
