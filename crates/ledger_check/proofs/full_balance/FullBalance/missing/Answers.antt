use Rattle.ledger_check.proofs.FullyBalanced.{lacking_missing}
use Rattle.ledger_check.proofs.full_balance.FullBalance.missing.Goals as goal

pub returns : goal.returns
returns c = λ valid subtracted is.
    lacking_missing c.args.self.now valid subtracted c.in_ok-taps.taps.items c.in_ok-taps.ensures is
