use Rattle.std.proofs.Common.{List, drop}
use Rattle.tap_rows.specs.{Devices.Device, Devices.devices_of, Numbering.IsNumbered}
use Rattle.tool_tasks.specs.{EncodeRows.Chain, inside.EncodeRows.csvs_of}
use Rattle.tool_tasks.proofs.encode_tables.number_each.Given as goal

-- what numbers the devices of the rest numbers those of all
abbrev pub invariant-loop-number : goal.invariant-loop-number
invariant-loop-number l = (final : List Device)
    → Chain (IsNumbered l.choice) (csvs_of (drop l.number l.csvs)) (devices_of l.devices) final
    → Chain (IsNumbered l.choice) (csvs_of l.csvs) (devices_of l.fn.devices) final
