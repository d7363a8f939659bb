use Rattle.std.proofs.Common.{◌≡◌, ℕ, List, Some, length, map}
use Rattle.settled_bills.specs.inside.Taken.{AreTapsTaken, IsReady}
use Rattle.sorted_taps.specs.{Positions.ArePlaced, declared.reader.TapReader.TapReader}
use Rattle.tap_views.specs.declared.encoder.TapFields.{TapFields}
use Rattle.settled_bills.proofs.token_part.spans_of_part.Given as goal

-- some taps were taken from where the part begins
abbrev pub invariant-loop : goal.invariant-loop
invariant-loop g l = record {
  ready : IsReady (length l.files) l.started.taker;
  positions : length l.started.positions.items ≡ length l.files;
  begin : List TapReader;
  placed : (all : List (List ℕ)) → map g.F.Placed.bytes l.files ≡ map Some all
      → ArePlaced all l.started.positions.items begin;
  done : List TapFields;
  taken : AreTapsTaken (map g.F.Placed.bytes l.files) begin done l.started.taker.merge.readers.items;
}
