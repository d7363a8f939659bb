use Rattle.std.proofs.Common.{◌≤◌}
use Rattle.tap_parts.specs.Keys.{tap_of_key}
use Rattle.sorted_taps.specs.inside.Limits.{IsRunIn}
use Rattle.sorted_taps.proofs.step.run_from.Given as goal

abbrev pub invariant-loop-position : goal.invariant-loop-position
invariant-loop-position l = record {
  some : 1 ≤ l.position;
  run : IsRunIn (tap_of_key l.limit) l.ahead l.position;
}
