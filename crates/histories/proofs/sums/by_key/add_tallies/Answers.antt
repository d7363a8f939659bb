use Rattle.std.proofs.Common.{◌∙◌, ap, arith, subst}
use Rattle.histories.proofs.MergeLemmas.{IsAdding, adding-more, adding-done, room-adding}
use Rattle.histories.specs.{Sums.Sums, Sums.add_sums, TalliesByKey.kept_sums}
use Rattle.std.specs.HashMap.{get}
use Rattle.histories.proofs.sums.by_key.add_tallies.Goals as goal

pub add_tally-requires : goal.add_tally-requires
add_tally-requires g c =
    let room = room-adding g.met.K.Eq.laws g.met.K.SumKey.same g.V.Summed.summed
    c.args.tallies.now.entries c.args.more.now.entries c.loop-key.tallies.entries
    c.next.new.self c.in-Some.key.now c.in-Some.counted.now c.requires
    (subst (λ left. IsAdding g.K.PartialEq.eq g.V.Summed.summed c.args.tallies.now.entries
    c.args.more.now.entries c.loop-key.tallies.entries left) c.in-Some.ensures.steps
    c.loop-key.invariant) in
    let same = ap (λ (s : Sums). s.taps) c.tally.ensures in
    omega (arith, room, same)

pub loop-key-preserved : goal.loop-key-preserved
loop-key-preserved g c =
    adding-more g.met.K.Eq.laws g.met.K.SumKey.same g.V.Summed.summed c.args.tallies.now.entries
    c.args.more.now.entries c.loop-key.tallies.entries c.add_tally.new.tallies.entries
    c.next.new.self c.in-Some.key.now c.in-Some.counted.now c.in_ok-add_tally.ensures.0
    (c.in_ok-add_tally.ensures.1 ∙ ap (add_sums (kept_sums (get g.K.PartialEq.eq
    c.loop-key.tallies c.in-Some.key.now))) c.tally.ensures)
    c.in_ok-add_tally.ensures.2
    (subst (λ left. IsAdding g.K.PartialEq.eq g.V.Summed.summed c.args.tallies.now.entries
    c.args.more.now.entries c.loop-key.tallies.entries left) c.in-Some.ensures.steps
    c.loop-key.invariant)

pub returns : goal.returns
returns g c =
    adding-done g.met.K.Eq.laws g.met.K.SumKey.same g.V.Summed.summed c.args.tallies.now.entries
    c.args.more.now.entries c.loop-key.tallies.entries
    (subst (λ left. IsAdding g.K.PartialEq.eq g.V.Summed.summed c.args.tallies.now.entries
    c.args.more.now.entries c.loop-key.tallies.entries left) c.in-None.ensures.steps.0
    c.loop-key.invariant)
