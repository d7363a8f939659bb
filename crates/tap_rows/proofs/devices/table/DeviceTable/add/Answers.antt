use Rattle.std.proofs.Common.{◌∙◌, refl, sym}
use Rattle.indexmap.proofs.CallerLemmas.{insert_entry-new}
use Rattle.tap_rows.specs.Devices.{devices_of}
use Rattle.tap_rows.proofs.DeviceLemmas.{device_added, none_found}
use Rattle.tap_rows.proofs.devices.table.DeviceTable.add.Goals as goal

pub returns-in-Err-clause-fault : goal.returns-in-Err-clause-fault
returns-in-Err-clause-fault c = (refl, c.in-Err.ensures.wrong (devices_of c.args.self.now))

pub returns-clause-added : goal.returns-clause-added
returns-clause-added c =
    let name = c.in-Ok.device.0.now in
    let number = c.in-Ok.device.1 in
    let numbers = c.args.self.now.numbers in
    let none = sym c.validator_of.ensures
    ∙ none_found c.validator_of.result c.is_some.result c.is_some.ensures c.if-is_some.false in (
      (name, number),
      c.in-Ok.ensures.device,
      none,
      device_added (λ v. v.items) numbers.entries c.insert.new.self.entries c.in_ok-key.key name
          number c.in_ok-key.ensures.items none
          (λ absent. c.in_ok-insert.ensures.entries
          ∙ insert_entry-new _ numbers c.in_ok-key.key number absent),
    )
