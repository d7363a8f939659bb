use Rattle.ledger_check.proofs.ColumnLemmas.{read_back}
use Rattle.ledger_check.proofs.laws.columns_are_read_back.Goals as goal

pub returns : goal.returns
returns c = read_back
