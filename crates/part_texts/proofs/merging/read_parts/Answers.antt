use Rattle.std.proofs.Common.{◌∙◌, refl, sym}
use Rattle.part_texts.specs.inside.Fronts.{fronts_view}
use Rattle.part_texts.proofs.AllParts.{all_read, follow_next, none_read, not_read, one_read, same_next}
use Rattle.part_texts.proofs.Parts.{follow_length}
use Rattle.part_texts.proofs.merging.read_parts.Goals as goal

pub loop-position-init : goal.loop-position-init
loop-position-init g c =
    none_read c.args.is_copied (fronts_view c.new-parts.result) c.args.opens.now c.args.from.now
    (g.W.Inputs.run c.args.world.now) c.requires c.new-parts.ensures

pub returns-in-Err-clause-follow : goal.returns-in-Err-clause-follow
returns-in-Err-clause-follow g c =
    follow_next _ c.loop-position.invariant c.loop-position-test.true c.index-opens-position.is
    c.in-Err.ensures.0

pub returns-in-Err-clause-number : goal.returns-in-Err-clause-number
returns-in-Err-clause-number g c =
    same_next _ c.loop-position.invariant c.loop-position-test.true c.index-opens-position.is
    c.in-Err.ensures.0

pub returns-in-Err-clause-read : goal.returns-in-Err-clause-read
returns-in-Err-clause-read g c =
    not_read _ c.loop-position.invariant c.loop-position-test.true c.index-opens-position.is
    c.begin.ensures (fronts_view c.read_part.new.parts) (g.W.Inputs.run c.read_part.new.world)
    c.in-Err.fault c.loop-position.opens c.in-Err.ensures

pub loop-position-preserved : goal.loop-position-preserved
loop-position-preserved g c =
    one_read _ c.loop-position.invariant c.loop-position-test.true c.index-opens-position.is
    c.begin.ensures (record {
      stage = c.read_part.new.parts.stage;
      number = c.in-Ok.number;
      part = c.read_part.new.parts.part;
    }) c.in-Ok.ensures (λ lines. refl)

pub returns-clause-follow : goal.returns-clause-follow
returns-clause-follow g c = c.loop-position.invariant.follow

pub returns-clause-number : goal.returns-clause-number
returns-clause-number g c =
    c.loop-position.invariant.same
    ∙ sym (follow_length c.args.from.now c.loop-position.from c.loop-position.invariant.follow)

pub returns-clause-read : goal.returns-clause-read
returns-clause-read g c =
    all_read c.loop-position.parts c.loop-position.invariant c.loop-position-test.false
