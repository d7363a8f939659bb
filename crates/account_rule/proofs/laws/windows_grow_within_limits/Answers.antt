-- No ride takes its window past what it was and the ride's own limits, so none does in any window.
use Rattle.account_rule.proofs.LimitLemmas.{cents-grow, paid-grow}
use Rattle.account_rule.proofs.laws.windows_grow_within_limits.Goals as goal

pub returns : goal.returns
returns c =
    λ rules taps position window _ before after ride _.
    (paid-grow rules.terms before ride, cents-grow rules.terms before ride)
