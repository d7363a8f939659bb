-- The condition that is named is one that fails.
use Rattle.account_rule.proofs.NoTransferLemmas.{lacks}
use Rattle.account_rule.proofs.laws.rides_lack_transfers.Goals as goal

pub returns : goal.returns
returns c = λ rules earlier tap mode start until charge.
    lacks rules earlier tap mode start until charge
