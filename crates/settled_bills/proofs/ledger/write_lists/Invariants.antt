use Rattle.std.proofs.Common.{take, string_bytes}
use Rattle.fare_texts.specs.WrittenOut.{GoesOut}
use Rattle.settled_bills.specs.inside.ExplainedTaps.{Explains}
use Rattle.settled_bills.proofs.Joined.{joined}
use Rattle.settled_bills.proofs.ledger.write_lists.Given as goal

-- the explainer went on by the taps of the lists so far
abbrev pub invariant-loop-list : goal.invariant-loop-list
invariant-loop-list g l =
    Explains l.table l.fn.explainer (joined (take l.list-index l.lists)) l.explainer
    (GoesOut (g.W.Write.contents l.fn.out) (string_bytes l.fn.text) (g.W.Write.contents l.out)
    (string_bytes l.text))
