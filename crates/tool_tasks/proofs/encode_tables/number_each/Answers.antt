use Rattle.std.proofs.Common.{subst, List, ℕ}
use Rattle.tap_rows.specs.{Devices.devices_of, Numbering.IsNumbered}
use Rattle.tool_tasks.proofs.EncodingRows.{chain_on}
use Rattle.tool_tasks.proofs.encode_tables.number_each.Goals as goal

pub loop-number-preserved : goal.loop-number-preserved
loop-number-preserved c = λ final rest.
    let now = devices_of c.loop-number.devices in
    let new = devices_of c.number_devices.new.devices in
    c.loop-number.invariant final (chain_on (IsNumbered c.args.choice.now) c.args.csvs.now
    c.loop-number.number c.index-csvs-number.result now new final c.loop-number-test.true
    c.index-csvs-number.is
    (subst (λ (t : List ℕ). IsNumbered c.args.choice.now t now new) c.deref.ensures.value
    c.in_ok-number_devices.ensures) rest)
