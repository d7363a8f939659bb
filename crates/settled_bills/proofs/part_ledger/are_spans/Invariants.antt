use Rattle.std.proofs.Common.{◌≡◌, ◌<◌, ℕ, get_or}
use Rattle.sorted_taps.specs.declared.positions.FileSpan.{FileSpan}
use Rattle.settled_bills.proofs.part_ledger.are_spans.Given as goal

abbrev pub invariant-loop-at : goal.invariant-loop-at
invariant-loop-at l =
    (k : ℕ) (d : FileSpan) → k < l.at → get_or l.made k d ≡ get_or l.spans k d
