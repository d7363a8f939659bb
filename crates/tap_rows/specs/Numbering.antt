-- Devices that get the next numbers of validators, and the text of their device table.
use Rattle.std.specs.List.{fold}
use Rattle.std.specs.Prelude.{◌≡◌, ◌⊎◌, ◌==◌, ◌&&◌, ◌+◌, ◌^◌, ◌++◌, ◌∷◌, [], ℕ, List, None, Option}
use Rattle.std.specs.Prelude.{Some, codes, decimal, flat_map, if◌then◌else◌, length, max, nat_lt}
use Rattle.tap_rows.specs.Agencies.{IsWanting}
use Rattle.tap_rows.specs.AgencyRows.{HeadLayout, field, is_kept, layout_in}
use Rattle.tap_rows.specs.AgencyTexts.{HasRecords, comma, first_record, record_text}
use Rattle.tap_rows.specs.Devices.{Device, validator_of}
use Rattle.tap_rows.specs.declared.agency.{choice.Choice.Choice, fault.Wanted.Wanted}

-- the greatest number of the validators, or 0
abbrev pub greatest : List Device → ℕ
greatest devices = fold (λ most device. max most device.1) 0 devices

-- a device of this name with the next number, if there is one below 2^32
abbrev pub next_device : List Device → List ℕ → List Device
next_device devices name = if nat_lt (greatest devices + 1) (2 ^ 32)
    then (name, greatest devices + 1) ∷ [] else []

-- what is added after a look-up: nothing if it found a number
abbrev pub unless_found : Option ℕ → List Device → List Device
unless_found None new = new
unless_found (Some number) new = []

-- the devices with one of this name, if it is not empty
abbrev pub with_name : List Device → List ℕ → List Device
with_name devices name = if length name == 0 then devices
    else devices ++ unless_found (validator_of devices name) (next_device devices name)

-- the devices with that of a row, if it is kept
abbrev pub with_row : HeadLayout → List Device → List (List ℕ) → List Device
with_row layout devices row = if (length row == layout.width) && is_kept layout row
    then with_name devices (field row layout.validator) else devices

-- the text has all columns of the choice, and the devices of its rows were added, in their order
pub record AreAdded (choice : Choice) (text : List ℕ) (old new : List Device) : Type 0 where
  pub head : List (List ℕ)
  pub rows : List (List (List ℕ))
  pub records : HasRecords choice.columns.now.separator text (head ∷ rows)
  pub columns : (column : Wanted) → ¬ (IsWanting choice head column)
  pub new_are : new ≡ fold (with_row (layout_in choice head)) old rows

-- the same, or the text lacks a column and none was added
abbrev pub IsNumbered : Choice → List ℕ → List Device → List Device → Type 0
IsNumbered choice text old new = AreAdded choice text old new
    ⊎ ((column : Wanted) × IsWanting choice (first_record choice.columns.now.separator text) column
    × (new ≡ old))

-- the row of a device
abbrev pub device_row : Device → List ℕ
device_row device = record_text comma (device.0 ∷ decimal device.1 ∷ [])

-- the device table of some devices, in their order
abbrev pub device_table_text : List Device → List ℕ
device_table_text devices = codes "device,validator\n" ++ flat_map device_row devices
