use Rattle.std.proofs.Common.{subst, sym}
use Rattle.settlement.proofs.Passed.{few_kept, used_kept}
use Rattle.settlement.proofs.upload.add_piece.Goals as goal

pub returns-clause-bound : goal.returns-clause-bound
returns-clause-bound g c =
    rw c.used_of.ensures (used_kept _ _ _ _ _ c.in_ok-end.ensures)

pub returns-clause-few : goal.returns-clause-few
returns-clause-few g c = few_kept _ _ _ _ _ c.in_ok-end.ensures
