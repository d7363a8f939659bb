use Rattle.settlement.proofs.bill.Bill.new.Goals as goal
use Rattle.histories.proofs.SumsByToken.{no_sums}

pub returns : goal.returns
returns c = record {
  tokens = no_sums _ c.new.ensures;
  counts = record { validators = c.new-2.ensures; totals = c.new-3.ensures };
}
