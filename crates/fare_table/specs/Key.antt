-- The words for keys, in fault lines and in the text, and the bounds of their numbers.
use Rattle.fare_table.specs.declared.fault.Key.{Key, TheVariants.Modes, TheVariants.Transfers}
use Rattle.fare_table.specs.declared.fault.Key.TheVariants.{Caps, CapWindow, CapModes, Classes}
use Rattle.fare_table.specs.declared.fault.Key.TheVariants.{Fare, Rides, Ceiling, ClassCaps, Fares}
use Rattle.fare_table.specs.declared.fault.Key.TheVariants.{From, Pays, RideTransfers, To}
use Rattle.fare_table.specs.declared.fault.Key.TheVariants.{TransferMinutes, DefaultClass}
use Rattle.fare_table.specs.declared.fault.Key.TheVariants.{Validators, First, Last, ModeName}
use Rattle.fare_table.specs.declared.fault.Key.TheVariants.{Riders, Window, DayStarts, Zone}
use Rattle.std.specs.Prelude.{ℕ, List, None, Option, Some, codes}

-- the bytes of the variant's name
abbrev pub key_name : Key → List ℕ
key_name Modes = codes "Modes"
key_name Transfers = codes "Transfers"
key_name From = codes "From"
key_name To = codes "To"
key_name Pays = codes "Pays"
key_name Caps = codes "Caps"
key_name CapWindow = codes "CapWindow"
key_name CapModes = codes "CapModes"
key_name Classes = codes "Classes"
key_name Fare = codes "Fare"
key_name Rides = codes "Rides"
key_name Ceiling = codes "Ceiling"
key_name Fares = codes "Fares"
key_name ClassCaps = codes "ClassCaps"
key_name RideTransfers = codes "RideTransfers"
key_name TransferMinutes = codes "TransferMinutes"
key_name DefaultClass = codes "DefaultClass"
key_name Validators = codes "Validators"
key_name First = codes "First"
key_name Last = codes "Last"
key_name ModeName = codes "ModeName"
key_name Riders = codes "Riders"
key_name Zone = codes "Zone"
key_name Window = codes "Window"
key_name DayStarts = codes "DayStarts"

-- the word that the text has for a key
abbrev pub key_word : Key → List ℕ
key_word Modes = codes "modes"
key_word Transfers = codes "transfers"
key_word From = codes "from"
key_word To = codes "to"
key_word Pays = codes "pays"
key_word Caps = codes "caps"
key_word CapWindow = codes "window"
key_word CapModes = codes "modes"
key_word Classes = codes "classes"
key_word Fare = codes "fare"
key_word Rides = codes "rides"
key_word Ceiling = codes "ceiling"
key_word Fares = codes "fares"
key_word ClassCaps = codes "caps"
key_word RideTransfers = codes "transfers"
key_word TransferMinutes = codes "transfer_minutes"
key_word DefaultClass = codes "default_class"
key_word Validators = codes "validators"
key_word First = codes "first"
key_word Last = codes "last"
key_word ModeName = codes "mode"
key_word Riders = codes "riders"
key_word Zone = codes "zone"
key_word Window = codes "window"
key_word DayStarts = codes "day_starts"

-- the least and the greatest number that the key takes, of `Fares` and `ClassCaps` each number in
-- it. The number of `Last` may also not be below the `first` beside it
abbrev pub bounds_of : Key → Option (ℕ × ℕ)
bounds_of Fare = Some (0, 100_000)
bounds_of Rides = Some (1, 1_000)
bounds_of Ceiling = Some (1, 100_000_000)
bounds_of Fares = Some (0, 100_000)
bounds_of ClassCaps = Some (1, 100_000_000)
bounds_of RideTransfers = Some (0, 9)
bounds_of TransferMinutes = Some (1, 1_440)
bounds_of Pays = Some (1, 100_000)
bounds_of First = Some (0, 4_294_967_295)
bounds_of Last = Some (0, 4_294_967_295)
bounds_of other = None
