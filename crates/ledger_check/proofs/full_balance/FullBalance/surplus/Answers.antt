use Rattle.ledger_check.proofs.FullyBalanced.{lacking_surplus}
use Rattle.ledger_check.proofs.full_balance.FullBalance.surplus.Goals as goal

pub returns : goal.returns
returns c = λ valid subtracted is.
    lacking_surplus c.args.self.now valid subtracted c.in_ok-taps.taps.items c.in_ok-taps.ensures is
