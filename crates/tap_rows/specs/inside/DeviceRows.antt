-- How far a device table is read: what private functions alone cite.
use Rattle.csv.specs.{Records.field_at, declared.reader.Reader.Reader}
use Rattle.std.specs.{Borrow.Bor, List.AllZip, List.IsDistinct, Map.keys_of}
use Rattle.std.specs.Prelude.{◌≡◌, ℕ, List, ◌∷◌, Some, codes, length}
use Rattle.std.specs.Str.{bytes_eq}
use Rattle.tap_rows.specs.Devices.{Device, HasDeviceHead, IsDeviceRow, IsFirstWrong, IsWrongDevice}
use Rattle.tap_rows.specs.{Devices.device_head, declared.agency.choice.Separator.Separator}
use Rattle.tap_rows.specs.declared.devices.fault.DevicesFault.{DevicesFault}
use Rattle.tap_rows.specs.declared.devices.fault.WrongDevice.{WrongDevice}
use Rattle.tap_rows.specs.inside.RecordReaders.{HasConsumed}
use Rattle.tap_rows.specs.declared.devices.fault.DevicesFault.TheVariants as fault

-- the row has the two names, as the head of a device table
abbrev pub IsHeadRow : List (List ℕ) → Type 0
IsHeadRow row =
    (length row ≡ 2) × (field_at row 0 ≡ Some (codes "device"))
    × (field_at row 1 ≡ Some (codes "validator"))

-- what is wrong with a row, whatever rows are before it
abbrev pub IsRowOfNone : List (List ℕ) → WrongDevice → Type 0
IsRowOfNone row why = (devices : List Device) → IsWrongDevice devices row why

-- why the row of this number, after those of these devices, was not added
abbrev pub IsRowFault : List Device → ℕ → List (List ℕ) → DevicesFault → Type 0
IsRowFault devices number row fault.Head = ⊥
IsRowFault devices number row (fault.Row at why) = (at ≡ number) × IsWrongDevice devices row why
IsRowFault devices number row fault.NoMemory = Unit {0}

-- what a fault says of a text with this separator
abbrev pub IsFaultBy : Separator → List ℕ → DevicesFault → Type 0
IsFaultBy separator text fault.Head = ¬ (HasDeviceHead separator text)
IsFaultBy separator text (fault.Row number why) = IsFirstWrong separator text number why
IsFaultBy separator text fault.NoMemory = Unit {0}

-- `count` rows are read from a device table, and give these devices their validators
pub record HasDevices (separator : Separator) (text : List ℕ) (count : ℕ)
    (reader : Reader (Bor (List ℕ))) (devices : List Device) : Type 0 where
  pub rows : List (List (List ℕ))
  pub consumed : HasConsumed separator text (device_head ∷ rows) reader
  pub each : AllZip IsDeviceRow rows devices
  pub once : IsDistinct bytes_eq (keys_of devices)
  pub number : length rows ≡ count
