use Rattle.std.proofs.Common.{◌≤◌, length, take, string_bytes}
use Rattle.fare_texts.specs.WrittenOut.{GoesOut}
use Rattle.settled_bills.specs.inside.ExplainedTaps.{Explains}
use Rattle.settled_bills.proofs.rounds.write_by_workers.Given as goal

-- the explainer went on by the taps so far
abbrev pub invariant-loop-position : goal.invariant-loop-position
invariant-loop-position g l = record {
  inside : l.done ≤ length l.taps;
  explained : Explains l.table l.fn.explainer (take l.done l.taps) l.explainer
      (GoesOut (g.W.Write.contents l.fn.out) (string_bytes l.fn.text) (g.W.Write.contents l.out)
      (string_bytes l.text));
}
