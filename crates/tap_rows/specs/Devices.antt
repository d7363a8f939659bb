-- A device table: a CSV that gives devices, by their names, the numbers of their validators.
use Rattle.std.specs.{List.AllZip, List.IsDistinct, Map.keys_of, Map.lookup, Prelude.◌≡◌}
use Rattle.std.specs.Prelude.{◌⊎◌, ℕ, ◌+◌, List, [], ◌∷◌, ◌++◌, Option, Some, length, map, codes}
use Rattle.std.specs.Str.{bytes_eq}
use Rattle.tap_rows.specs.AgencyTexts.{BeginsWith, HasRecords, comma, first_record}
use Rattle.tap_rows.specs.Rows.{IsNoValidator, IsValidator}
use Rattle.tap_rows.specs.declared.agency.choice.Separator.{Separator}
use Rattle.tap_rows.specs.declared.devices.fault.DevicesFault.{DevicesFault}
use Rattle.tap_rows.specs.declared.devices.fault.WrongDevice.{WrongDevice}
use Rattle.tap_rows.specs.declared.devices.table.DeviceTable.{DeviceTable}
use Rattle.tap_rows.specs.declared.devices.fault.DevicesFault.TheVariants as fault
use Rattle.tap_rows.specs.declared.devices.fault.WrongDevice.TheVariants as wrong

-- a device: its name, and the number of its validator
abbrev pub Device : Type 0
Device = List ℕ × ℕ

-- the devices of a table, in the order of their rows
abbrev pub devices_of : DeviceTable → List Device
devices_of table = map (λ entry. (entry.0.items, entry.1)) table.numbers.entries

-- the validator of the first of the devices with this name; none if no device has it
abbrev pub validator_of : List Device → List ℕ → Option ℕ
validator_of devices name = lookup (bytes_eq name) devices

-- the head of a device table
abbrev pub device_head : List (List ℕ)
device_head = codes "device" ∷ codes "validator" ∷ []

-- with this separator the text has the head of a device table
abbrev pub HasDeviceHead : Separator → List ℕ → Type 0
HasDeviceHead separator text = first_record separator text ≡ device_head

-- the separator of a device table beside rows with this one: theirs, if the head has its two names
-- by it, or else a comma
abbrev pub IsItsSeparator : Separator → List ℕ → Separator → Type 0
IsItsSeparator separator text its =
    (HasDeviceHead separator text × (its ≡ separator))
    ⊎ (¬ (HasDeviceHead separator text) × (its ≡ comma))

-- the row gives this device its validator: it has two fields, and the device's is not empty
pub record IsDeviceRow (row : List (List ℕ)) (device : Device) : Type 0 where
  pub digits : List ℕ
  pub fields : row ≡ device.0 ∷ digits ∷ []
  pub named : ¬ (device.0 ≡ [])
  pub number : IsValidator digits device.1

-- by this separator the text is a device table of these devices, in the order of their rows: each
-- row gives one its validator, and no two have the same name
pub record AreDevicesBy (separator : Separator) (text : List ℕ) (devices : List Device)
    : Type 0 where
  pub rows : List (List (List ℕ))
  pub records : HasRecords separator text (device_head ∷ rows)
  pub each : AllZip IsDeviceRow rows devices
  pub once : IsDistinct bytes_eq (keys_of devices)

-- beside rows with this separator the text is a device table of these devices
pub record AreDevices (separator : Separator) (text : List ℕ) (devices : List Device) : Type 0 where
  pub its : Separator
  pub is_its : IsItsSeparator separator text its
  pub are : AreDevicesBy its text devices

-- what is wrong with a row after those of these devices
abbrev pub IsWrongDevice : List Device → List (List ℕ) → WrongDevice → Type 0
IsWrongDevice devices row wrong.Fields = ¬ (length row ≡ 2)
IsWrongDevice devices row wrong.NoName = (digits : List ℕ) × (row ≡ [] ∷ digits ∷ [])
IsWrongDevice devices row wrong.Validator =
    (name digits : List ℕ) × (row ≡ name ∷ digits ∷ []) × ¬ (name ≡ []) × IsNoValidator digits
IsWrongDevice devices row wrong.Again =
    (device : Device) × IsDeviceRow row device × (number : ℕ)
    × (validator_of devices device.0 ≡ Some number)

-- the row of this number is the first that is wrong, in this way. The head is row 1
pub record IsFirstWrong (separator : Separator) (text : List ℕ) (number : ℕ) (why : WrongDevice)
    : Type 0 where
  pub before : List (List (List ℕ))
  pub devices : List Device
  pub row : List (List ℕ)
  pub records : BeginsWith separator text (device_head ∷ (before ++ row ∷ []))
  pub each : AllZip IsDeviceRow before devices
  pub once : IsDistinct bytes_eq (keys_of devices)
  pub number_is : number ≡ length before + 2
  pub is_wrong : IsWrongDevice devices row why

-- what a fault says of the text; that a growth of memory failed says nothing of it
abbrev pub IsDevicesFault : Separator → List ℕ → DevicesFault → Type 0
IsDevicesFault separator text fault.Head =
    ¬ (HasDeviceHead separator text) × ¬ (HasDeviceHead comma text)
IsDevicesFault separator text (fault.Row number why) =
    (its : Separator) × IsItsSeparator separator text its × IsFirstWrong its text number why
IsDevicesFault separator text fault.NoMemory = Unit {0}
