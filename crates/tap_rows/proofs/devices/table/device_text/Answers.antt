use Rattle.std.proofs.Common.{sym}
use Rattle.tap_rows.specs.Devices.{devices_of}
use Rattle.tap_rows.proofs.NumberingLemmas.{rows_more}
use Rattle.tap_rows.proofs.devices.table.device_text.Goals as goal

pub loop-index-preserved : goal.loop-index-preserved
loop-index-preserved c =
    rows_more (devices_of c.args.devices.now) c.loop-index.index c.loop-index.text.items
    c.push_device.new.text.items (c.in-Some.name.now, c.in-Some.number) (sym c.in-Some.ensures)
    c.loop-index.invariant c.in_ok-push_device.ensures
