use Rattle.std.proofs.Common.{◌∙◌}
use Rattle.tap_rows.proofs.DeviceLemmas.{lookup_named}
use Rattle.tap_rows.proofs.devices.table.DeviceTable.validator_of.Goals as goal

pub returns : goal.returns
returns c = c.copied.ensures ∙ c.get.ensures.value
    ∙ lookup_named (λ v. v.items) c.args.name.now c.args.self.now.numbers.entries
