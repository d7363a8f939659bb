-- No list of rides exceeds the limits, so no window does.
use Rattle.account_rule.proofs.LimitLemmas.{paid_rides-le, window_cents-le}
use Rattle.account_rule.proofs.laws.windows_keep_limits.Goals as goal

pub returns-clause-rides : goal.returns-clause-rides
returns-clause-rides c =
    λ rules taps limit position window _ all. paid_rides-le rules.terms limit _ all

pub returns-clause-ceiling : goal.returns-clause-ceiling
returns-clause-ceiling c =
    λ rules taps ceiling position window _ all. window_cents-le rules.terms ceiling _ all
