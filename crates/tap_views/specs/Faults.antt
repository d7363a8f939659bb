-- When bytes begin with no batch: the table of faults, and the first row of it that holds. The
-- places are those of the two layouts.
use Rattle.std.specs.{List.starts_with, Prelude.◌≡◌, Prelude.ℕ, Prelude.◌+◌}
use Rattle.std.specs.Prelude.{◌*◌, ◌<◌, ◌≤◌, List, length, take, drop, codes, nat_eq, if◌then◌else◌}
use Rattle.tap_views.specs.Layout.{num, moment_limit, Layout, Tap1, Tap2}
use Rattle.tap_views.specs.declared.fault.LayoutFault.{LayoutFault}
use Rattle.tap_views.specs.declared.fault.LayoutFault.TheVariants.{Short, Magic, Flags, TooMany}
use Rattle.tap_views.specs.declared.fault.LayoutFault.TheVariants.{Length, Moment}

-- the bytes of the header
abbrev pub header : Layout → ℕ
header Tap1 = 8
header (Tap2 validator) = 12

-- the bytes of one tap
abbrev pub width : Layout → ℕ
width Tap1 = 28
width (Tap2 validator) = 24

-- the layout that the first bytes ask for
abbrev pub layout_in : List ℕ → Layout
layout_in bytes =
    if starts_with nat_eq bytes (codes "TAP2") then Tap2 (take 4 (drop 8 bytes)) else Tap1

-- the count of the header: bytes 4 and 5
abbrev pub count_in : List ℕ → ℕ
count_in bytes = num (take 2 (drop 4 bytes))

-- the flags of the header: bytes 6 and 7
abbrev pub flags_in : List ℕ → ℕ
flags_in bytes = num (take 2 (drop 6 bytes))

-- the bytes of the whole batch
abbrev pub size_in : List ℕ → ℕ
size_in bytes = header (layout_in bytes) + width (layout_in bytes) * count_in bytes

-- the moment of the tap at an index is at the same place in both layouts: after the header, a
-- token and a validator
abbrev pub moment_in : List ℕ → ℕ → ℕ
moment_in bytes index = num (take 8 (drop (28 + width (layout_in bytes) * index) bytes))

-- what each fault says of the bytes from the batch's start on; the header of `TAP2` is the longer
-- one, so its bytes may be short though those of another magic are not
abbrev pub Row : LayoutFault → List ℕ → Type 0
Row (Short have) bytes = (have ≡ length bytes) × (length bytes < header (layout_in bytes))
Row Magic bytes = ¬ (take 4 bytes ≡ codes "TAP1") × ¬ (take 4 bytes ≡ codes "TAP2")
Row Flags bytes = ¬ (flags_in bytes ≡ 0)
Row (TooMany count) bytes = (count ≡ count_in bytes) × (4096 < count)
Row (Length want have) bytes = (want ≡ size_in bytes) × (have ≡ length bytes) × (have < want)
Row (Moment index) bytes =
    (index < count_in bytes) × (moment_limit ≤ moment_in bytes index)
    × ((earlier : ℕ) → earlier < index → moment_in bytes earlier < moment_limit)

-- the order in which the rows are asked
abbrev pub fault_order : LayoutFault → ℕ
fault_order (Short have) = 1
fault_order Magic = 2
fault_order Flags = 3
fault_order (TooMany count) = 4
fault_order (Length want have) = 5
fault_order (Moment index) = 6

-- the fault is the first row of the fault table that holds of the bytes
pub record IsFault (bytes : List ℕ) (fault : LayoutFault) : Type 0 where
  pub holds : Row fault bytes
  pub first : (other : LayoutFault) → fault_order other < fault_order fault → ¬ (Row other bytes)
