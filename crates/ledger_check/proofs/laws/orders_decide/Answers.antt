use Rattle.ledger_check.proofs.Orders.{decide}
use Rattle.ledger_check.proofs.laws.orders_decide.Goals as goal

pub returns : goal.returns
returns c = decide
