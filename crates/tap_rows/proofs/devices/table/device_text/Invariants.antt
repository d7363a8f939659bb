use Rattle.std.proofs.Common.{◌≡◌, take}
use Rattle.tap_rows.specs.{Devices.devices_of, Numbering.device_table_text}
use Rattle.tap_rows.proofs.devices.table.device_text.Given as goal

-- the text of the devices so far
abbrev pub invariant-loop-index : goal.invariant-loop-index
invariant-loop-index l = l.text.items ≡ device_table_text (take l.index (devices_of l.devices))
