use Rattle.std.proofs.Common.{◌≡◌, ◌+◌, ◌≤◌, length}
use Rattle.ledger_check.specs.Lines.{lines_of}
use Rattle.report_check.specs.Reports.{difference}
use Rattle.report_check.proofs.verdict.first_difference.Given as goal

-- the first lines of the wanted text stand in the text, too
abbrev pub invariant-loop-left : goal.invariant-loop-left
invariant-loop-left l = record {
  same : difference 1 (lines_of l.wanted) l.text ≡ difference l.number (lines_of l.left) l.rest;
  few : l.number + length l.left ≤ length l.wanted + 1;
}

abbrev pub decreases-loop-left : goal.decreases-loop-left
decreases-loop-left l = length l.left
