use Rattle.std.proofs.Common.{◌≡◌, ◌+◌, ◌++◌, ◌≤◌, length}
use Rattle.omny_audit.specs.Reports.{damage_lines}
use Rattle.omny_audit.proofs.report.write_damage.Given as goal

-- what was written, and the lines of the ends that are left, are the whole
abbrev pub invariant-loop-end : goal.invariant-loop-end
invariant-loop-end l = record {
  few : l.upload + length l.rest ≤ length l.ends;
  same : l.fn.text.items ++ damage_lines 0 l.ends
      ≡ l.text.items ++ damage_lines l.upload l.rest;
}

abbrev pub decreases-loop-end : goal.decreases-loop-end
decreases-loop-end l = length l.rest
