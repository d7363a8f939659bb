-- Each window costs as much or more, and the windows are the same.
use Rattle.account_rule.proofs.PriceLemmas.{higher-cost}
use Rattle.account_rule.proofs.laws.higher_terms_are_never_cheaper.Goals as goal

pub returns : goal.returns
returns c = λ rules higher taps increase. higher-cost rules higher taps increase
