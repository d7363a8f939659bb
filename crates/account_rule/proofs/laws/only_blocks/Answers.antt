-- Both are the one division of a list by a test.
use Rattle.account_rule.proofs.BlocksUnique.{cut_iff}
use Rattle.account_rule.specs.{Trips.trips, Windows.windows}
use Rattle.account_rule.proofs.laws.only_blocks.Goals as goal

pub returns-clause-trips : goal.returns-clause-trips
unfolding trips
returns-clause-trips c = λ rules taps blocks. cut_iff _ _ blocks

pub returns-clause-windows : goal.returns-clause-windows
unfolding windows
returns-clause-windows c = λ rules taps blocks. cut_iff _ _ blocks
