use Rattle.std.proofs.Common.{◌∙◌, sym}
use Rattle.tap_rows.specs.Devices.{devices_of}
use Rattle.tap_rows.proofs.NumberingLemmas.{greatest_more}
use Rattle.tap_rows.proofs.devices.table.DeviceTable.greatest.Goals as goal

pub loop-index-preserved : goal.loop-index-preserved
loop-index-preserved c = c.max-most.ensures
    ∙ greatest_more (devices_of c.args.self.now) c.loop-index.index c.loop-index.most
    (c.in-Some.field-0-0.now, c.in-Some.number) (sym c.in-Some.ensures) c.loop-index.invariant
