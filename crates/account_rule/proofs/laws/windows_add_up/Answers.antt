-- One more tap adds the same to the replies and to the windows.
use Rattle.account_rule.proofs.ShareLemmas.{cents_measure, paid_measure, ride_replies-shares}
use Rattle.account_rule.proofs.ShareLemmas.{shares_of, sum-replies}
use Rattle.account_rule.proofs.laws.windows_add_up.Goals as goal

pub returns-clause-rides : goal.returns-clause-rides
unfolding shares_of
returns-clause-rides c = λ rules taps. ride_replies-shares rules taps

pub returns-clause-cents : goal.returns-clause-cents
returns-clause-cents c = λ rules taps. sum-replies rules _ _ (cents_measure rules.terms) taps

pub returns-clause-paid : goal.returns-clause-paid
returns-clause-paid c = λ rules taps. sum-replies rules _ _ (paid_measure rules.terms) taps
