use Rattle.std.proofs.Common.{◌<◌, arith, ap, length}
use Rattle.tap_views.proofs.Cuts.{first_tap, first_rest, first_cut}
use Rattle.tap_views.proofs.taps.TapsIterator.next.Goals as goal

pub of-tap-requires-clause-tap : goal.of-tap-requires-clause-tap
of-tap-requires-clause-tap c =
    rw (c.split_at.ensures.front, c.width_of.ensures)
    (first_tap _ _ _ (omega arith) c.self.invariant)

pub invariant_of-self : goal.invariant_of-self
invariant_of-self c = rw (c.split_at.ensures.back, c.width_of.ensures)
    (first_rest _ _ _ (omega arith) c.self.invariant)

pub returns-clause-steps : goal.returns-clause-steps
returns-clause-steps c =
    let some : 0 < c.self.inside.left = omega arith in
    rw (
      ← c.self.view_is,
      c.of-tap.ensures,
      c.split_at.ensures.front,
      c.split_at.ensures.back,
      c.width_of.ensures,
    ) (first_cut _ _ _ some)

pub returns-clause-goes : goal.returns-clause-goes
returns-clause-goes c = record {
  on = λ _. (tt, tt, omega (arith, ap length (returns-clause-steps c)));
  keeps = tt;
  rests = λ _. tt;
}
