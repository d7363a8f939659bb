use Rattle.std.proofs.Common.{◌≡◌, take}
use Rattle.histories.specs.{Sums.sums_of_replies, Tally.sums_of_tally}
use Rattle.fare_service.proofs.service.working.count.Given as goal

abbrev pub invariant-loop-position : goal.invariant-loop-position
invariant-loop-position l =
    sums_of_tally l.tally ≡ sums_of_replies (take l.position l.replies.items)
