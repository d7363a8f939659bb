use Rattle.std.proofs.Common.{◌-◌, ◌≤◌, arith, get_or, length}
use Rattle.tariffs.proofs.ApartLemmas.{increasing-reaches, split-half}
use Rattle.tariffs.proofs.validators.started_by_halves.Goals as goal

pub taken_if_started-base-requires : goal.taken_if_started-base-requires
taken_if_started-base-requires c =
    let firsts = c.args.firsts.now in
    let reached : length firsts - 1 ≤ get_or firsts (length firsts - 1) 0 =
    increasing-reaches firsts c.requires (length firsts - 1) 0
    (omega (arith, c.loop-size.invariant.inside, c.loop-size-test.true)) in
    let fits = c.type_inv.firsts (length firsts - 1) in
    omega (arith, reached, fits, c.loop-size.invariant.inside)

pub loop-size-preserved : goal.loop-size-preserved
loop-size-preserved c = record {
  split = rw c.taken_if_started-base.ensures
      (split-half c.args.number c.args.firsts.now c.loop-size.base c.loop-size.size _ c.requires
      c.loop-size.invariant.split (omega arith) c.loop-size.invariant.inside);
  some = omega arith;
  inside = grind (arith, c.taken_if_started-base.ensures);
}
