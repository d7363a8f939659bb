use Rattle.ledger_check.proofs.FullCheckLaw.{decides}
use Rattle.ledger_check.proofs.laws.full_checks_decide.Goals as goal

pub returns : goal.returns
returns c = decides
