use Rattle.histories.proofs.SumsLemmas.{sums-append}
use Rattle.histories.proofs.laws.sums_add_up.Goals as goal

pub returns : goal.returns
returns c = sums-append
