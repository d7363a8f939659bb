use Rattle.std.proofs.Common.{take}
use Rattle.class_names.specs.Names.{class_by}
use Rattle.settled_bills.proofs.TracedLines.{GoesWith}
use Rattle.settled_bills.specs.{inside.ExplainedTaps.Explains, Traces.taps_of_trace}
use Rattle.settled_bills.proofs.traced_ledger.write_lines.Given as goal

-- the explainer went on by the taps so far, and their lines went out with their columns
abbrev pub invariant-loop-traced : goal.invariant-loop-traced
invariant-loop-traced g l =
    Explains l.table l.fn.explainer (taps_of_trace (take l.traced-index l.trace)) l.explainer
    (GoesWith (class_by l.names) l.trace (g.W.Write.contents l.fn.out) l.fn.room.lines.items
    (g.W.Write.contents l.out) l.room.lines.items l.left)
