-- Each ride finds the cents of its place charged already.
use Rattle.account_rule.proofs.PriceLemmas.{equal_by_positions}
use Rattle.account_rule.proofs.laws.equal_fares_are_charged_by_positions.Goals as goal

pub returns : goal.returns
returns c = equal_by_positions
