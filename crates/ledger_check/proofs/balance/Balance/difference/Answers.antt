use Rattle.std.proofs.Common.{None}
use Rattle.ledger_check.proofs.Balanced.{Balances, all_subtracted, some_left}
use Rattle.ledger_check.proofs.balance.Balance.difference.Goals as goal

pub returns-in_default-first_left : goal.returns-in_default-first_left
returns-in_default-first_left c = λ valid subtracted is.
    all_subtracted c.args.self.now.left valid subtracted
    (rw c.in_default-first_left.is at c.first_left.ensures.none) (rw c.in_default.is at is)

pub returns : goal.returns
returns c = λ valid subtracted is.
    let one : Balances c.args.self.now.left c.args.self.now.surplus valid subtracted = is in
    let none : Balances c.args.self.now.left None valid subtracted = rw c.in_default.is at one in
    some_left c.args.self.now.left valid subtracted c.in-Some-first_left.tap
    c.in-Some-first_left.ensures.found none
