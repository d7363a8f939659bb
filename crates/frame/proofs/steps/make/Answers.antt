use Rattle.frame.proofs.steps.make.Goals as goal

pub returns-in-Ok-clause-made : goal.returns-in-Ok-clause-made
returns-in-Ok-clause-made g c =
    rw c.in-Ok.ensures.unchanged at (c.finish.ensures.made c.args.bytes.now c.in-Ok.ensures.bytes)
