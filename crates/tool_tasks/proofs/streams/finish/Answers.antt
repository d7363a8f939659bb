use Rattle.std.proofs.Common.{◌∙◌, List, ap, inl, inr, refl, ℕ}
use Rattle.world.specs.Run.{Run, with_flushed, with_said}
use Rattle.tool_tasks.proofs.streams.finish.Goals as goal

pub returns-in-Ok-flush : goal.returns-in-Ok-flush
returns-in-Ok-flush g c =
    rw c.in-Ok.is (
      refl,
      c.say.ensures
          ∙ ap (λ (r : Run). with_said r c.deref.result.now) c.in-Ok-flush.ensures.flushed
          ∙ ap (λ (t : List ℕ). with_said (with_flushed (g.W.Inputs.run c.args.world.now)) t)
          c.deref.ensures.value,
    )

pub returns-in-Ok : goal.returns-in-Ok
returns-in-Ok g c = rw c.in-Ok.is (c.in-Err-flush.why, refl, c.in-Err-flush.ensures.cut)

pub returns-in-Unwritten : goal.returns-in-Unwritten
returns-in-Unwritten g c = rw c.in-Err.is (inl (refl, inl refl))

pub returns-in-Ok-flush-2 : goal.returns-in-Ok-flush-2
returns-in-Ok-flush-2 g c = rw c.in-Err.is (inl (refl, inr c.in-Ok-flush-2.ensures.flushed))

pub returns : goal.returns
returns g c = rw c.in-Err.is (inr (c.in-Err-flush-2.why, refl, c.in-Err-flush-2.ensures.cut))
