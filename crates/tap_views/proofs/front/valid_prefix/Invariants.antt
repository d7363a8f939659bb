use Rattle.std.proofs.Common.{◌++◌}
use Rattle.tap_views.specs.Files.{IsReadAs}
use Rattle.tap_views.proofs.front.valid_prefix.Given as goal

abbrev pub invariant-loop-batch : goal.invariant-loop-batch
invariant-loop-batch l = record {
  may : (goal.iterator-loop-batch).can_next l.valid;
  ends : (goal.iterator-loop-batch).is_finite l.valid;
  read : IsReadAs l.upload (l.yielded ++ l.valid.batches) l.valid.fault;
}
