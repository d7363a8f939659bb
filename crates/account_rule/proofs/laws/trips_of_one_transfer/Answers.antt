-- Trips and rows have the same rides, tap by tap.
use Rattle.account_rule.proofs.OneTransferLemmas.{one_transfer}
use Rattle.account_rule.proofs.laws.trips_of_one_transfer.Goals as goal

pub returns : goal.returns
returns c = λ rules taps one. one_transfer rules taps one
