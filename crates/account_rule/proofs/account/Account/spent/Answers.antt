-- The modes that are named are those of the last tap and of the ride.
use Rattle.account_rule.proofs.account.Account.spent.Goals as goal

pub returns-clause-modes : goal.returns-clause-modes
returns-clause-modes c = λ modes from to. (from, to)
