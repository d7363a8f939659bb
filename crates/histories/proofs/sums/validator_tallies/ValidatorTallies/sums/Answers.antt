use Rattle.histories.specs.TalliesByKey.{HasRoom, MapHasRoom}
use Rattle.histories.proofs.sums.validator_tallies.ValidatorTallies.sums.Goals as goal

pub listed-requires : goal.listed-requires
unfolding HasRoom MapHasRoom
listed-requires c =
    let (entries, tallied, few) = c.requires in
    (entries, c.in_ok-all.ensures entries tallied, few)
