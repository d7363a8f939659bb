use Rattle.tap_rows.proofs.OneDeviceTable.{one_list, want_of_memory}
use Rattle.tap_rows.proofs.laws.one_device_table.Goals as goal

pub returns : goal.returns
returns c = record { devices = one_list; valid = want_of_memory }
