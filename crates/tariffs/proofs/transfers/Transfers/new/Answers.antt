use Rattle.tariffs.proofs.MaskLemmas.{masks-none}
use Rattle.tariffs.proofs.transfers.Transfers.new.Goals as goal

pub invariant_of-result : goal.invariant_of-result
invariant_of-result c = rw c.new.ensures.items masks-none
