use Rattle.std.proofs.{Common.ap, Common.sym, Common.length, Common.arith, lemmas.Bool.eqb-false}
use Rattle.tap_views.proofs.Reading.{step-batch, step-fault}
use Rattle.tap_views.proofs.file.FileBatchesIterator.next.Goals as goal

pub returns-in-Ok-clause-steps : goal.returns-in-Ok-clause-steps
returns-in-Ok-clause-steps c =
    let (front, batch, whole) = c.in-Ok.ensures.found in
    rw (← c.self.view_is) (step-batch _ _ front _ _ batch whole)

pub returns-in-Ok-clause-goes : goal.returns-in-Ok-clause-goes
returns-in-Ok-clause-goes c = record {
  on = λ _. (tt, tt, omega (arith, ap length (returns-in-Ok-clause-steps c)));
  keeps = tt;
  rests = λ _. tt;
}

pub returns-in-Err-clause-steps : goal.returns-in-Err-clause-steps
returns-in-Err-clause-steps c =
    let left = c.self.inside.rest.now in
    rw (← c.self.view_is)
    (step-fault c.self.inside.at left c.in-Err.fault (λ none.
    eqb-false (length left) 0 (sym c.if-is_empty.ensures) (ap length none))
    c.in-Err.ensures.fault)
