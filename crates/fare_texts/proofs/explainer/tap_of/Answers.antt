use Rattle.std.proofs.Common.{sym}
use Rattle.histories.proofs.Histories.{tap_of-post}
use Rattle.fare_texts.proofs.explainer.tap_of.Goals as goal

pub returns-clause-tap : goal.returns-clause-tap
returns-clause-tap c =
    sym (tap_of-post c.args.table.now c.args.entry.now c.mode_of.result c.mode_of.ensures.mode)
