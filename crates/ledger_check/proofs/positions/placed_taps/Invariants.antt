use Rattle.std.proofs.Common.{◌≡◌, ◌++◌, map}
use Rattle.ledger_check.specs.inside.Positions.{unnamed}
use Rattle.tap_views.specs.{Encoding.fields_of, Files.IsReadAs, Files.taps_of_batches}
use Rattle.ledger_check.proofs.positions.placed_taps.Given as goal

abbrev pub invariant-loop-batch : goal.invariant-loop-batch
invariant-loop-batch l = record {
  may : (goal.iterator-loop-batch).can_next l.batch-iterator;
  ends : (goal.iterator-loop-batch).is_finite l.batch-iterator;
  read : IsReadAs l.upload (l.yielded ++ l.batch-iterator.batches) l.batch-iterator.fault;
  added : l.placed.items ≡ map unnamed (map fields_of (taps_of_batches l.yielded));
}
