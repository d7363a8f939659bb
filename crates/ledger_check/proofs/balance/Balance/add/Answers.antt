use Rattle.std.proofs.lemmas.Result.{on_ok_weaker}
use Rattle.ledger_check.proofs.Balanced.{added}
use Rattle.ledger_check.proofs.balance.Balance.add.Goals as goal

pub returns : goal.returns
returns c =
    on_ok_weaker c.put_one.result
    (λ more valid is.
    added c.args.self.now.left c.put_one.new.left c.args.self.now.surplus valid c.args.tap.now more
    is)
    c.put_one.ensures
