use Rattle.std.proofs.Common.{◌≡◌, ◌++◌, map}
use Rattle.tap_views.specs.Encoding.{fields_of}
use Rattle.ledger_check.specs.inside.Positions.{unnamed}
use Rattle.ledger_check.proofs.positions.add_batch.Given as goal

abbrev pub invariant-loop-tap : goal.invariant-loop-tap
invariant-loop-tap l = record {
  may : (goal.iterator-loop-tap).can_next l.tap-iterator;
  ends : (goal.iterator-loop-tap).is_finite l.tap-iterator;
  all : l.yielded ++ l.tap-iterator ≡ l.fn.batch;
  added : l.placed.items ≡ l.fn.placed.items ++ map unnamed (map fields_of l.yielded);
}
