use Rattle.tap_rows.specs.{Devices.devices_of, inside.Numbering.IsNumbering}
use Rattle.tap_rows.proofs.devices.numbering.number_devices.Given as goal

abbrev pub invariant-loop-count : goal.invariant-loop-count
invariant-loop-count l = IsNumbering l.fn.choice l.positions l.fn.text l.reader
    (devices_of l.fn.devices) (devices_of l.devices)
