use Rattle.tap_views.specs.inside.Faults.{AllEarly}
use Rattle.tap_views.proofs.batch.first_late.Given as goal

abbrev pub invariant-loop-i : goal.invariant-loop-i
invariant-loop-i l = AllEarly l.bytes l.i
