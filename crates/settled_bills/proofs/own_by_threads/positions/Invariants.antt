use Rattle.std.proofs.Common.{◌≡◌, length}
use Rattle.settled_bills.proofs.own_by_threads.positions.Given as goal

abbrev pub invariant-loop : goal.invariant-loop
invariant-loop l = length l.owns.items ≡ l.counter
