use Rattle.std.proofs.Common.{refl}
use Rattle.ledger_check.specs.Columns.{traced_head}
use Rattle.ledger_check.proofs.columns.traced_head_line.Goals as goal

pub returns : goal.returns
unfolding traced_head
returns c = refl
