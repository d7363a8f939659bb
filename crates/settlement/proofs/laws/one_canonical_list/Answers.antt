use Rattle.settlement.proofs.Sorting.{one_canonical}
use Rattle.settlement.proofs.laws.one_canonical_list.Goals as goal

pub returns : goal.returns
returns c = one_canonical
