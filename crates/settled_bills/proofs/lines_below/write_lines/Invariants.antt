use Rattle.std.proofs.Common.{◌≡◌, ◌+◌, ◌<◌, ◌^◌, List, [], ℕ, length, map, string_bytes}
use Rattle.fare_texts.specs.{LedgerLines.head_text, WrittenOut.GoesOut}
use Rattle.settled_bills.specs.inside.ExplainedTaps.{AreExplained}
use Rattle.settlement.specs.Nondecreasing.{TapsNondecreasingFrom, last_token}
use Rattle.settled_bills.specs.inside.Taken.{AreTapsTaken, IsReady}
use Rattle.tap_views.specs.declared.encoder.TapFields.{TapFields}
use Rattle.settled_bills.proofs.lines_below.write_lines.Given as goal

-- the taps taken so far were explained
abbrev pub invariant-loop : goal.invariant-loop
invariant-loop g l = record {
  ready : IsReady (length l.files) l.taker;
  room : l.explainer.number + l.left < 2 ^ 64;
  done : List TapFields;
  taken : AreTapsTaken (map g.F.Placed.bytes l.files) l.fn.taker.merge.readers.items done
      l.taker.merge.readers.items;
  nondecreasing : TapsNondecreasingFrom l.fn.from done;
  token : l.explainer.token ≡ last_token l.fn.from done;
  lines : List ℕ;
  explained : AreExplained l.table [] done l.explainer lines;
  gone : GoesOut (g.W.Write.contents l.fn.out) head_text (g.W.Write.contents l.out)
      (string_bytes l.text) lines;
}
