use Rattle.std.proofs.Common.{◌≡◌, ◌+◌, ◌*◌, ◌≤◌, List, length}
use Rattle.fare_service.specs.Runs.{RunVisit, ArePostedWhole, runs_below}
use Rattle.fare_service.specs.{ServiceView.shards_of, Shares.HasVisited, Shares.books_of}
use Rattle.fare_service.specs.Stopping.{SomeFull}
use Rattle.histories.specs.Sums.{sums_of}
use Rattle.tap_views.specs.Runs.{AreRuns}
use Rattle.fare_service.proofs.service.Service.post_batch.Given as goal

abbrev pub invariant-loop-shard : goal.invariant-loop-shard
invariant-loop-shard g l = record {
  passes : books_of l.posting.passes.items ≡ l.fn.self.books;
  clock : l.buffers.run.clock ≡ l.fn.buffers.run.clock;
  runs : AreRuns l.batch l.buffers.runs;
  shards : length l.buffers.runs ≡ shards_of l.fn.self;
  room : l.posting.totals.taps ≤ l.fn.posting.totals.taps + 4096 * l.shard;
  within : l.shard ≤ l.shard-end;
  full : SomeFull l.fn.posting.passes.items → SomeFull l.posting.passes.items;
  made : (more : List RunVisit)
      × HasVisited (shards_of l.fn.self) l.fn.posting.passes.items l.posting.passes.items
      (sums_of l.fn.posting.totals) (sums_of l.posting.totals) more
      × ArePostedWhole (runs_below (shards_of l.fn.self) l.shard l.fn.batch)
      more;
}
