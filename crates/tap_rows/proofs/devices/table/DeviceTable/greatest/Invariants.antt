use Rattle.std.proofs.Common.{◌≡◌, take}
use Rattle.tap_rows.specs.{Devices.devices_of, Numbering.greatest}
use Rattle.tap_rows.proofs.devices.table.DeviceTable.greatest.Given as goal

-- that of the devices so far
abbrev pub invariant-loop-index : goal.invariant-loop-index
invariant-loop-index l = l.most ≡ greatest (take l.index (devices_of l.self))
