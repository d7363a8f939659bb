use Rattle.std.proofs.Common.{◌≤◌, length, take}
use Rattle.std.specs.List.Sorted.{IsSorted}
use Rattle.tap_parts.specs.Canonical.{tap_cmp}
use Rattle.sorted_taps.proofs.step.token_run.Given as goal

abbrev pub invariant-loop-position : goal.invariant-loop-position
invariant-loop-position l = record {
  some : 1 ≤ l.position;
  within : l.position ≤ length l.ahead;
  sorted : IsSorted tap_cmp (take l.position l.ahead);
}
