use Rattle.std.proofs.Common.{refl}
use Rattle.ledger_check.proofs.open_sums.OpenSums.new.Goals as goal

pub returns : goal.returns
returns c = record {
  split = (refl, c.new.ensures);
  validators = c.new-2.ensures;
  totals = c.new-3.ensures;
}
