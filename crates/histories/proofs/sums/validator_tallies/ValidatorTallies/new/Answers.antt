use Rattle.histories.proofs.TalliedLemmas.{tallied-none}
use Rattle.histories.proofs.sums.validator_tallies.ValidatorTallies.new.Goals as goal

pub returns : goal.returns
returns c = tallied-none _ _ c.with_hasher.ensures.empty c.with_hasher-2.ensures.empty
