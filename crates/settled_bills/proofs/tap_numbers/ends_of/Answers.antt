use Rattle.std.proofs.Common.{ap, ◌∙◌, take}
use Rattle.tap_views.specs.UploadEnds.{are_posted}
use Rattle.settled_bills.proofs.Counted.{all_posted}
use Rattle.settled_bills.proofs.tap_numbers.ends_of.Goals as goal

pub returns-clause-posted : goal.returns-clause-posted
returns-clause-posted c =
    ap are_posted c.loop-taps.invariant
    ∙ all_posted (take c.loop-taps.taps-index c.args.numbers.now)
