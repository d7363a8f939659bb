use Rattle.ledger_check.proofs.VerdictLemmas.{decide}
use Rattle.ledger_check.proofs.laws.verdicts_decide.Goals as goal

pub returns : goal.returns
returns c = decide
