-- What is left to give of a file, as a function of its bytes: the view of the iterator, and of
-- nothing else. Contracts say it by `IsParse`.
use Rattle.std.specs.List.{range_with_len}
use Rattle.std.specs.Prelude.{ℕ, zero, suc, ◌+◌, ◌==◌, nat_lt, not, ◌||◌, Bool, List, [], ◌∷◌}
use Rattle.std.specs.Prelude.{length, map, take, drop, find, codes, Option, Some, None, Ok, Err}
use Rattle.std.specs.Str.{bytes_eq}
use Rattle.tap_views.specs.Faults.{header, layout_in, count_in, flags_in, size_in, moment_in}
use Rattle.tap_views.specs.{Files.ValidBatchesView, Files.Item, Layout.moment_limit, Layout.Tap}
use Rattle.tap_views.specs.declared.fault.LayoutFault.{LayoutFault, TheVariants.Short}
use Rattle.tap_views.specs.declared.fault.LayoutFault.TheVariants.{Magic, Flags, TooMany, Length}
use Rattle.tap_views.specs.{declared.fault.LayoutFault.TheVariants.Moment, inside.Records.taps_in}

-- the table's rows, with the fields that these bytes give them
abbrev pub rows_of : List ℕ → List LayoutFault
rows_of bytes =
    Short (length bytes) ∷ Magic ∷ Flags ∷ TooMany (count_in bytes)
    ∷ Length (size_in bytes) (length bytes) ∷ map Moment (range_with_len 0 (count_in bytes))

-- whether a row holds
abbrev pub is_row : List ℕ → LayoutFault → Bool
is_row bytes (Short have) = nat_lt (length bytes) (header (layout_in bytes))
is_row bytes Magic =
    not (bytes_eq (take 4 bytes) (codes "TAP1") || bytes_eq (take 4 bytes) (codes "TAP2"))
is_row bytes Flags = not (flags_in bytes == 0)
is_row bytes (TooMany count) = nat_lt 4096 (count_in bytes)
is_row bytes (Length want have) = nat_lt (length bytes) (size_in bytes)
is_row bytes (Moment index) = not (nat_lt (moment_in bytes index) moment_limit)

-- the first row that holds of the bytes, if one does
abbrev pub found_fault : List ℕ → Option LayoutFault
found_fault bytes = find (is_row bytes) (rows_of bytes)

-- the taps of bytes that begin with a batch
abbrev pub first_taps : List ℕ → List Tap
first_taps bytes =
    taps_in (layout_in bytes) (count_in bytes) (drop (header (layout_in bytes)) bytes)

-- what is given at an offset, before what comes after the batch there
abbrev pub given_at : ℕ → List ℕ → Option LayoutFault → List Item → List Item
given_at offset bytes None trailing = Ok (first_taps bytes) ∷ trailing
given_at offset bytes (Some fault) trailing = Err (offset, fault) ∷ []

-- at most this number of items
abbrev pub items_within : ℕ → ℕ → List ℕ → List Item
items_within zero offset bytes = []
items_within (suc fuel) offset [] = []
items_within (suc fuel) offset (byte ∷ more) =
    given_at offset (byte ∷ more) (found_fault (byte ∷ more))
    (items_within fuel (offset + size_in (byte ∷ more))
    (drop (size_in (byte ∷ more)) (byte ∷ more)))

-- the items that a reader is given of bytes which are at an offset of their file: each batch has
-- a byte at least
abbrev pub items_from : ℕ → List ℕ → List Item
items_from offset bytes = items_within (length bytes) offset bytes

-- the batches that are given before a fault
abbrev pub batches_among : List Item → List (List Tap)
batches_among [] = []
batches_among (Ok batch ∷ items) = batch ∷ batches_among items
batches_among (Err stop ∷ items) = []

-- the first fault that is given
abbrev pub fault_among : List Item → Option (ℕ × LayoutFault)
fault_among [] = None
fault_among (Ok batch ∷ items) = fault_among items
fault_among (Err stop ∷ items) = Some stop

-- what is left to read, by what is given
abbrev pub valid_among : List Item → ValidBatchesView
valid_among items = record { batches = batches_among items; fault = fault_among items }

-- what is left to read of bytes which are at an offset of their file
abbrev pub valid_from : ℕ → List ℕ → ValidBatchesView
valid_from offset bytes = valid_among (items_from offset bytes)
