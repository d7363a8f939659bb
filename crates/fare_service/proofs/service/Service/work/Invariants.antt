use Rattle.std.proofs.Common.{◌≡◌, ◌+◌, ◌-◌, ◌≤◌, length, vec_len, vec_capacity}
use Rattle.fare_service.proofs.{ShareLemmas.holding, StoppingLemmas.Going}
use Rattle.fare_service.specs.{ServiceView.shards_of, Shares.IsShareOf}
use Rattle.histories.specs.Sums.{sums_of}
use Rattle.fare_service.proofs.service.Service.work.Given as goal

abbrev pub invariant-loop : goal.invariant-loop
invariant-loop g l = record {
  share : IsShareOf l.fn.self
      (holding l.drawer l.posting.passes.items (sums_of l.posting.totals) l.done.items
      l.calls.run);
  going : Going l.fn.self l.fn.share
      (holding l.drawer l.posting.passes.items (sums_of l.posting.totals) l.done.items
      l.calls.run);
  clock : l.buffers.run.clock ≡ l.fn.self.table.zone;
  runs : length l.buffers.runs ≡ shards_of l.fn.self;
  room : vec_len l.done + (length l.fn.self.uploads - l.drawer.seen) ≤ vec_capacity l.done;
}
