use Rattle.part_texts.proofs.AllParts.{all_merged, front_cut, no_fronts_read, not_merged}
use Rattle.part_texts.proofs.{AllParts.still_no_memory, Parts.follow_on}
use Rattle.part_texts.proofs.merging.merge_initial.Goals as goal

pub returns-in-Err-clause-merges : goal.returns-in-Err-clause-merges
returns-in-Err-clause-merges g c =
    no_fronts_read c.args.parts.now c.read_parts.new.from c.args.opens.now c.read_parts.new.opens
    (g.W.Inputs.run c.args.world.now) (g.W.Inputs.run c.read_parts.new.world) c.requires.some
    c.requires.fresh c.requires.initial c.requires.number c.read_parts.ensures.follow c.in-Err.fault
    c.in-Err.ensures.read

pub returns-in_default-clause-merges : goal.returns-in_default-clause-merges
returns-in_default-clause-merges g c =
    still_no_memory c.args.parts.now c.read_parts.new.from c.args.opens.now c.read_parts.new.opens
    (g.W.Inputs.run c.args.world.now) (g.W.Inputs.run c.read_parts.new.world) c.requires.some
    c.requires.fresh c.requires.initial c.requires.number c.read_parts.ensures.follow c.in-Ok.fronts
    c.in-Ok.ensures.read

pub returns-in-Err-write-clause-merges : goal.returns-in-Err-write-clause-merges
returns-in-Err-write-clause-merges g c =
    front_cut c.args.parts.now c.read_parts.new.from c.args.opens.now c.read_parts.new.opens
    (g.W.Inputs.run c.args.world.now) (g.W.Inputs.run c.read_parts.new.world) c.requires.some
    c.requires.fresh c.requires.initial c.requires.number c.read_parts.ensures.follow c.in-Ok.fronts
    c.in-Ok.ensures.read (g.W.Inputs.run c.write.new.self) c.in-Err-write.why
    (rw (c.deref.ensures.value, c.in-Ok-whole_front.ensures) at c.in-Err-write.ensures.cut)

pub read_parts-requires-2 : goal.read_parts-requires-2
read_parts-requires-2 g c = c.read_parts.ensures.number

pub returns-in-Ok-read_parts-clause-follow : goal.returns-in-Ok-read_parts-clause-follow
returns-in-Ok-read_parts-clause-follow g c =
    follow_on c.args.parts.now c.read_parts.new.from c.read_parts-2.new.from
    c.read_parts.ensures.follow c.read_parts-2.ensures.follow

pub returns-in-Ok-read_parts-clause-merges : goal.returns-in-Ok-read_parts-clause-merges
returns-in-Ok-read_parts-clause-merges g c =
    all_merged c.args.parts.now c.read_parts.new.from c.args.opens.now c.read_parts.new.opens
    (g.W.Inputs.run c.args.world.now) (g.W.Inputs.run c.read_parts.new.world) c.requires.some
    c.requires.fresh c.requires.initial c.requires.number c.read_parts.ensures.follow c.in-Ok.fronts
    c.in-Ok.ensures.read c.read_parts-2.new.from c.read_parts-2.new.opens
    (g.W.Inputs.run c.write.new.self) (g.W.Inputs.run c.read_parts-2.new.world)
    c.read_parts-2.ensures.follow
    (rw (c.deref.ensures.value, c.in-Ok-whole_front.ensures) at c.in-Ok-write.ensures.whole)
    c.in-Ok-read_parts.field-0 c.in-Ok-read_parts.ensures.read

pub returns-clause-follow : goal.returns-clause-follow
returns-clause-follow g c =
    follow_on c.args.parts.now c.read_parts.new.from c.read_parts-2.new.from
    c.read_parts.ensures.follow c.read_parts-2.ensures.follow

pub returns-clause-merges : goal.returns-clause-merges
returns-clause-merges g c =
    not_merged c.args.parts.now c.read_parts.new.from c.args.opens.now c.read_parts.new.opens
    (g.W.Inputs.run c.args.world.now) (g.W.Inputs.run c.read_parts.new.world) c.requires.some
    c.requires.fresh c.requires.initial c.requires.number c.read_parts.ensures.follow c.in-Ok.fronts
    c.in-Ok.ensures.read c.read_parts-2.new.from c.read_parts-2.new.opens
    (g.W.Inputs.run c.write.new.self) (g.W.Inputs.run c.read_parts-2.new.world)
    c.read_parts-2.ensures.follow
    (rw (c.deref.ensures.value, c.in-Ok-whole_front.ensures) at c.in-Ok-write.ensures.whole)
    c.in-Err-read_parts.fault c.in-Err-read_parts.ensures.read
