use Rattle.std.proofs.Common.{◌≡◌, ◌<◌, ◌≤◌, length}
use Rattle.tap_views.specs.Shards.{run_of}
use Rattle.tap_views.proofs.run.next_of.Given as goal

abbrev pub invariant-loop-tap : goal.invariant-loop-tap
invariant-loop-tap l = record {
  left : run_of l.shard l.shards l.taps ≡ run_of l.shard l.shards l.fn.taps;
  below : l.shard < l.shards;
  most : l.shards ≤ 64;
}

abbrev pub decreases-loop-tap : goal.decreases-loop-tap
decreases-loop-tap l = length l.taps
