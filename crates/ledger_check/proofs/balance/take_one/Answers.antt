use Rattle.std.proofs.Common.{◌≡◌, ℕ, ◌-◌, Option, sym, ap, arith, rules}
use Rattle.std.specs.Option.{unwrap_or}
use Rattle.ledger_check.specs.Balances.{left_at}
use Rattle.ledger_check.proofs.Balanced.{one_fewer}
use Rattle.ledger_check.proofs.balance.take_one.Goals as goal

pub returns-in-Some-clause-taken : goal.returns-in-Some-clause-taken
returns-in-Some-clause-taken c = λ _.
    let was : left_at c.args.left.now c.args.tap ≡ c.in-Some.count.now =
    ap (λ (o : Option ℕ). unwrap_or o 0) (sym c.in-Some.ensures.value) in
    one_fewer _ _ c.args.tap c.in-Some.count.now (c.in-Some.count.now - 1)
    ((c.get_mut.follows.holds (c.in-Some.count.now - 1)).3 (search rules)).0 was
    (omega (arith, c.if-get_mut-gt0.true))
