use Rattle.part_texts.specs.inside.Fronts.{fronts_view}
use Rattle.part_texts.proofs.Runs.{IsReading}
use Rattle.part_texts.proofs.merging.read_part.Given as goal

abbrev pub invariant-loop-number : goal.invariant-loop-number
invariant-loop-number g l =
    IsReading l.is_copied (fronts_view l.fn.parts) (fronts_view l.parts) l.fn.from l.from l.first
    l.number (g.W.Inputs.run l.fn.world) (g.W.Inputs.run l.world)
