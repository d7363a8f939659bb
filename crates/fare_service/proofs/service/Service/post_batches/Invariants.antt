use Rattle.std.proofs.Common.{◌≡◌, ◌++◌, length}
use Rattle.fare_service.proofs.BatchLemmas.{Posts}
use Rattle.fare_service.specs.{Runs.runs_of, ServiceView.shards_of, Shares.books_of}
use Rattle.fare_service.specs.Stopping.{SomeFull}
use Rattle.histories.specs.Sums.{sums_of}
use Rattle.tap_views.specs.Files.{IsReadAs}
use Rattle.fare_service.proofs.service.Service.post_batches.Given as goal

abbrev pub invariant-loop-batch : goal.invariant-loop-batch
invariant-loop-batch g l = record {
  may : (goal.iterator-loop-batch g).can_next l.valid;
  ends : (goal.iterator-loop-batch g).is_finite l.valid;
  read : IsReadAs l.file (l.yielded ++ l.valid.batches) l.valid.fault;
  passes : books_of l.posting.passes.items ≡ l.fn.self.books;
  clock : l.buffers.run.clock ≡ l.fn.buffers.run.clock;
  runs : length l.buffers.runs ≡ length l.fn.buffers.runs;
  full : SomeFull l.fn.posting.passes.items → SomeFull l.posting.passes.items;
  made : Posts (shards_of l.fn.self) l.fn.posting.passes.items l.posting.passes.items
      (sums_of l.fn.posting.totals) (sums_of l.posting.totals)
      (runs_of (shards_of l.fn.self) l.yielded);
}
