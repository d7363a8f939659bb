use Rattle.std.proofs.Common.{◌≡◌, map, drop}
use Rattle.histories.specs.Sums.{sums_of, add_sums, add_all}
use Rattle.fare_service.proofs.service.worker_totals.added.Given as goal

abbrev pub invariant-loop-worker : goal.invariant-loop-worker
invariant-loop-worker l =
    add_sums (sums_of l.totals) (add_all (map sums_of (drop l.worker-index l.workers)))
    ≡ add_all (map sums_of l.workers)
