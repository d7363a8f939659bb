use Rattle.std.proofs.Common.{◌+◌, ◌<◌, ◌≤◌, length}
use Rattle.tariffs.specs.inside.Validators.{IsSplitAt}
use Rattle.tariffs.proofs.validators.started_by_halves.Given as goal

abbrev pub invariant-loop-size : goal.invariant-loop-size
invariant-loop-size l = record {
  split : IsSplitAt l.number l.firsts l.base l.size;
  some : 0 < l.size;
  inside : l.base + l.size ≤ length l.firsts;
}

abbrev pub decreases-loop-size : goal.decreases-loop-size
decreases-loop-size l = l.size
