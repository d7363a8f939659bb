use Rattle.std.proofs.Common.{◌≡◌, length, take}
use Rattle.settlement.proofs.PartBills.{flat}
use Rattle.settlement.proofs.bill_by_threads.count_of.Given as goal

abbrev pub invariant-loop-pieces : goal.invariant-loop-pieces
invariant-loop-pieces l = l.taps ≡ length (flat (take l.pieces-index l.parts))
