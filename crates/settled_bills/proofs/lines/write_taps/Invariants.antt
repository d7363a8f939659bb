use Rattle.std.proofs.Common.{string_bytes, take}
use Rattle.fare_texts.specs.WrittenOut.{GoesOut}
use Rattle.settled_bills.specs.inside.ExplainedTaps.{Explains}
use Rattle.settled_bills.proofs.lines.write_taps.Given as goal

-- the explainer went on by the taps so far
abbrev pub invariant-loop-tap : goal.invariant-loop-tap
invariant-loop-tap g l =
    Explains l.table l.fn.explainer (take l.tap-index l.taps) l.explainer
    (GoesOut (g.W.Write.contents l.fn.out) (string_bytes l.fn.text) (g.W.Write.contents l.out)
    (string_bytes l.text))
