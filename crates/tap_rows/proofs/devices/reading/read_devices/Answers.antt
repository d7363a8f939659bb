use Rattle.tap_rows.specs.Devices.{devices_of}
use Rattle.tap_rows.proofs.DeviceLemmas.{own_devices, own_fault}
use Rattle.tap_rows.proofs.devices.reading.read_devices.Goals as goal

pub returns-in-Ok-clause-table : goal.returns-in-Ok-clause-table
returns-in-Ok-clause-table c =
    own_devices c.args.separator c.args.text.now (devices_of c.in-Ok.table) c.in-Ok.ensures.table

pub returns-in_default : goal.returns-in_default
returns-in_default c =
    record {
      table = tt;
      fault =
          own_fault c.args.separator c.args.text.now c.in-Err.fault c.in_default.not-Head
          c.in-Err.ensures.fault;
    }
