use Rattle.frame.proofs.Giving.{stopped_write}
use Rattle.frame.proofs.steps.write.Goals as goal

pub returns-in-Err-clause-stopped : goal.returns-in-Err-clause-stopped
returns-in-Err-clause-stopped g c = λ words start given is.
    stopped_write words start _ _ given c.args.piece.now c.in-Err.why c.in-Err.ensures.cut is
