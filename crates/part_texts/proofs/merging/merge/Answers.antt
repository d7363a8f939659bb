use Rattle.std.proofs.Common.{◌∙◌, ap, arith, length, subst, sym}
use Rattle.part_texts.proofs.{AllParts.no_memory, AllParts.no_parts, Parts.follow_self}
use Rattle.part_texts.specs.inside.Opened.{IsInitial}
use Rattle.std.proofs.lemmas.{Bool.Decides.nat_tests, List.nil_from_length}
use Rattle.std.specs.Prelude.{All}
use Rattle.part_texts.proofs.merging.merge.Goals as goal

pub returns-then-is_empty-clause-follow : goal.returns-then-is_empty-clause-follow
returns-then-is_empty-clause-follow g c = follow_self c.args.parts.now

pub returns-then-is_empty-clause-merges : goal.returns-then-is_empty-clause-merges
returns-then-is_empty-clause-merges g c =
    no_parts c.args.parts.now (g.W.Inputs.run c.args.world.now)
    (nil_from_length c.args.parts.now
    (grind (arith, nat_tests, c.is_empty.ensures, c.if-is_empty.true)))

pub returns-in_default-clause-follow : goal.returns-in_default-clause-follow
returns-in_default-clause-follow g c = follow_self c.args.parts.now

pub returns-in_default-clause-merges : goal.returns-in_default-clause-merges
returns-in_default-clause-merges g c =
    no_memory c.args.parts.now (g.W.Inputs.run c.args.world.now)

pub merge_initial-requires-clause-some : goal.merge_initial-requires-clause-some
merge_initial-requires-clause-some g c = grind (arith, nat_tests, c.is_empty.ensures, c.if-is_empty.false)

pub merge_initial-requires-clause-initial : goal.merge_initial-requires-clause-initial
merge_initial-requires-clause-initial g c =
    subst (All IsInitial) (sym c.deref_mut.ensures.value) c.in-Ok.ensures.none

pub merge_initial-requires-clause-number : goal.merge_initial-requires-clause-number
merge_initial-requires-clause-number g c =
    ap length c.deref_mut.ensures.value ∙ c.in-Ok.ensures.number
