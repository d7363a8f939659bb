use Rattle.std.proofs.Common.{◌<◌, arith, ap, length}
use Rattle.std.proofs.lemmas.List.{length-append}
use Rattle.tap_views.proofs.Cuts.{last_tap, last_rest, last_cut}
use Rattle.tap_views.proofs.taps.TapsDoubleEndedIterator.next_back.Goals as goal

pub of-tap-requires-clause-tap : goal.of-tap-requires-clause-tap
of-tap-requires-clause-tap c =
    rw (c.split_at.ensures.back, c.width_of.ensures) (last_tap _ _ _ (omega arith) c.self.invariant)

pub invariant_of-self : goal.invariant_of-self
invariant_of-self c = rw (c.split_at.ensures.front, c.width_of.ensures)
    (last_rest _ _ _ (omega arith) c.self.invariant)

pub returns-clause-steps : goal.returns-clause-steps
returns-clause-steps c =
    let some : 0 < c.self.inside.left = omega arith in
    rw (
      ← c.self.view_is,
      c.of-tap.ensures,
      c.split_at.ensures.back,
      c.split_at.ensures.front,
      c.width_of.ensures,
    ) (last_cut _ _ _ some c.self.invariant.whole)

pub returns-clause-goes : goal.returns-clause-goes
returns-clause-goes c = record {
  on = λ _. (tt, tt, omega (arith, simp length-append at (ap length (returns-clause-steps c))));
  keeps = tt;
  rests = λ _. tt;
}
