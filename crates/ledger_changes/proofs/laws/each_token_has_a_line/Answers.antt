use Rattle.ledger_changes.proofs.ByToken.{corrections_ascend, tokens_by}
use Rattle.ledger_changes.proofs.laws.each_token_has_a_line.Goals as goal

pub returns : goal.returns
returns c = λ old new changes are. tokens_by changes (corrections_ascend old new changes are)
