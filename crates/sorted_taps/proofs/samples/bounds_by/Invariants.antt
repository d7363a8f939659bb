use Rattle.std.proofs.Common.{◌≤◌, length}
use Rattle.sorted_taps.proofs.samples.bounds_by.Given as goal

abbrev pub invariant-loop-bound : goal.invariant-loop-bound
invariant-loop-bound g l = length l.bounds.items ≤ l.bound
