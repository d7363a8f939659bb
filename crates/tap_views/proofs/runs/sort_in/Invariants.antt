use Rattle.std.proofs.Common.{◌≡◌, ◌<◌, ◌++◌, [], ℕ, length, slice_index_or}
use Rattle.tap_views.specs.Runs.{positions_from}
use Rattle.tap_views.proofs.runs.sort_in.Given as goal

abbrev pub invariant-loop-tap : goal.invariant-loop-tap
invariant-loop-tap l = record {
  may : (goal.iterator-loop-tap).can_next l.tap-iterator;
  ends : (goal.iterator-loop-tap).is_finite l.tap-iterator;
  all : l.yielded ++ l.tap-iterator ≡ l.fn.batch;
  position : l.position ≡ length l.yielded;
  number : length l.lists ≡ l.shards;
  runs : (shard : ℕ) → shard < l.shards
      → slice_index_or l.lists shard [] ≡ positions_from shard l.shards 0 l.yielded;
}
