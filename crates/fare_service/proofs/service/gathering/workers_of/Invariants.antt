use Rattle.std.proofs.Common.{◌≡◌, map, take}
use Rattle.histories.specs.Sums.{sums_of}
use Rattle.fare_service.proofs.service.gathering.workers_of.Given as goal

abbrev pub invariant-loop-share : goal.invariant-loop-share
invariant-loop-share l =
    map sums_of l.workers.items ≡ map (λ share. share.totals) (take l.share-index l.shares)
