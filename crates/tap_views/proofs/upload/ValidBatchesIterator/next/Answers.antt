use Rattle.std.proofs.Common.{ap, length, refl, arith}
use Rattle.tap_views.proofs.Reading.{valid-batch, valid-none}
use Rattle.tap_views.proofs.upload.ValidBatchesIterator.next.Goals as goal

pub returns-in_default-clause-steps : goal.returns-in_default-clause-steps
returns-in_default-clause-steps c =
    rw (← c.self.view_is) (valid-none _ _ _ c.in_default.ensures.fault, refl)

pub returns-clause-steps : goal.returns-clause-steps
returns-clause-steps c =
    let (front, batch, whole) = c.in-Ok.ensures.found in
    rw (← c.self.view_is) (valid-batch _ _ front _ _ batch whole)

pub returns-clause-goes : goal.returns-clause-goes
returns-clause-goes c = record {
  on = λ _. (tt, tt, omega (arith, ap (λ g. length g.batches) (returns-clause-steps c)));
  keeps = tt;
  rests = λ _. tt;
}
