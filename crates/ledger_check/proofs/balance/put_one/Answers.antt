use Rattle.std.proofs.Common.{◌≡◌, ◌+◌, sym, arith, rules}
use Rattle.ledger_check.proofs.Balanced.{one_more}
use Rattle.ledger_check.proofs.balance.put_one.Goals as goal

pub returns : goal.returns
returns c =
    let more : c.in-Some.more ≡ c.count_at-count.result + 1 =
    first_of (search rules, grind arith) in
    one_more _ _ c.args.tap c.count_at-count.result c.in-Some.more c.in_ok-insert.ensures.updates.0
    (sym c.count_at-count.ensures) more
