use Rattle.std.proofs.Common.{◌≡◌, ◌++◌, length, map}
use Rattle.tap_views.specs.{Facts.IsSpan, Facts.moment_of, Files.IsReadAs, Files.taps_of_batches}
use Rattle.tap_views.proofs.facts.facts_of.Given as goal

abbrev pub invariant-loop-batch : goal.invariant-loop-batch
invariant-loop-batch l = record {
  may : (goal.iterator-loop-batch).can_next l.valid;
  ends : (goal.iterator-loop-batch).is_finite l.valid;
  read : IsReadAs l.upload (l.yielded ++ l.valid.batches) l.valid.fault;
  number : l.count ≡ length l.yielded;
  taps : l.taps ≡ length (taps_of_batches l.yielded);
  span : IsSpan (map moment_of (taps_of_batches l.yielded)) l.span;
}
