use Rattle.tap_rows.specs.{Devices.devices_of, inside.DeviceRows.HasDevices}
use Rattle.tap_rows.proofs.devices.reading.read_by.Given as goal

abbrev pub invariant-loop-count : goal.invariant-loop-count
invariant-loop-count l =
    HasDevices l.fn.separator l.fn.text l.count l.reader
    (devices_of l.table)
