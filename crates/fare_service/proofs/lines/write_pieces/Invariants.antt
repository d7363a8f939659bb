use Rattle.std.proofs.Common.{ℕ, List, [], ◌≤◌, drop, take, string_bytes}
use Rattle.fare_texts.specs.Lines.{AreLinesAlong, HasConsumed, NondecreasingFrom}
use Rattle.fare_texts.specs.WrittenOut.{GoesOut}
use Rattle.fare_service.specs.inside.Spots.{entries_at_spots}
use Rattle.fare_service.proofs.lines.write_pieces.Given as goal

-- the explainer has come past the entries so far, whose lines were written; the others do not fall
abbrev pub invariant-loop-spot : goal.invariant-loop-spot
invariant-loop-spot g l = record {
  consumed : HasConsumed l.table l.explainer (take l.spot-index (entries_at_spots l.books l.spots));
  nondecreasing : NondecreasingFrom l.explainer.token
      (drop l.spot-index (entries_at_spots l.books l.spots));
  few : l.explainer.number ≤ l.spot-index;
  written : List ℕ;
  along : AreLinesAlong l.table [] (take l.spot-index (entries_at_spots l.books l.spots)) written;
  whole : GoesOut (g.W.Write.contents l.fn.out) (string_bytes l.fn.text)
      (g.W.Write.contents l.out) (string_bytes l.text) written;
}
