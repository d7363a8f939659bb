use Rattle.std.proofs.Common.{◌≡◌, false, sym, ◌∙◌, rules, tests}
use Rattle.ledger_check.proofs.Balanced.{none_left, unfound}
use Rattle.ledger_check.proofs.balance.Balance.subtract.Goals as goal

pub returns-then-not-take_one : goal.returns-then-not-take_one
returns-then-not-take_one c = λ valid subtracted is.
    let balance = c.args.self.now in
    let none : c.take_one.result ≡ false = first_of (cc, search (rules, tests)) in
    none_left balance.left valid subtracted c.args.tap.now
    (c.take_one.ensures.none none)
    (unfound balance.left balance.surplus valid subtracted (sym c.is_some.ensures
    ∙ c.if-is_some.false) is)
