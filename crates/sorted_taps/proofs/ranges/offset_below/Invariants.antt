use Rattle.std.proofs.Common.{◌-◌, ◌≤◌}
use Rattle.sorted_taps.proofs.ranges.offset_below.Given as goal

abbrev pub invariant-loop-high : goal.invariant-loop-high
invariant-loop-high g l = l.low ≤ l.high

abbrev pub decreases-loop-high : goal.decreases-loop-high
decreases-loop-high g l = l.high - l.low
