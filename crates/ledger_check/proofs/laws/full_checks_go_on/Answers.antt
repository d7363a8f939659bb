use Rattle.ledger_check.proofs.SameTaken.{go_on}
use Rattle.ledger_check.proofs.laws.full_checks_go_on.Goals as goal

pub returns : goal.returns
returns c = go_on
