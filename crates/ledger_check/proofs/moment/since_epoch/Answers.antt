use Rattle.std.proofs.Common.{Some, ap, arith}
use Rattle.jiff_core.proofs.SignedLemmas.{signed_arith}
use Rattle.ledger_check.proofs.moment.since_epoch.Goals as goal

pub returns-then-days-lt-EPOCH_DAY-clause-found : goal.returns-then-days-lt-EPOCH_DAY-clause-found
returns-then-days-lt-EPOCH_DAY-clause-found c =
    λ day is. absurd (omega (arith, signed_arith, c.days_since_min.ensures.value))

pub returns-clause-found : goal.returns-clause-found
returns-clause-found c =
    λ day is. ap Some (omega (arith, signed_arith, c.days_since_min.ensures.value))
