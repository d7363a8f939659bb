use Rattle.part_texts.specs.inside.Fronts.{fronts_view}
use Rattle.part_texts.proofs.AllParts.{IsAtPart}
use Rattle.part_texts.proofs.merging.read_parts.Given as goal

abbrev pub invariant-loop-position : goal.invariant-loop-position
invariant-loop-position g l =
    IsAtPart l.is_copied (fronts_view l.parts) l.fn.opens l.opens l.fn.from l.from l.position
    (g.W.Inputs.run l.fn.world) (g.W.Inputs.run l.world)
