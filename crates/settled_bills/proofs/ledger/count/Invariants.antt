use Rattle.std.proofs.Common.{◌≡◌, length, take}
use Rattle.settled_bills.proofs.Joined.{joined}
use Rattle.settled_bills.proofs.ledger.count.Given as goal

-- the taps of the lists so far were counted
abbrev pub invariant-loop-list : goal.invariant-loop-list
invariant-loop-list l = l.count ≡ length (joined (take l.list-index l.lists))
