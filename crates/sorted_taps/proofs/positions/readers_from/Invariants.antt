use Rattle.std.proofs.Common.{◌≡◌, ◌≤◌, List, ℕ, Some, map, length}
use Rattle.sorted_taps.specs.{Positions.ArePlaced, Reading.window_bytes}
use Rattle.sorted_taps.proofs.positions.readers_from.Given as goal

-- the files so far have places, and readers there
abbrev pub invariant-loop-file : goal.invariant-loop-file
invariant-loop-file g l = record {
  room : window_bytes ≤ length l.window;
  number : length l.readers.items ≡ l.file-index;
  positions : length l.positions.items ≡ l.file-index;
  placed : (all : List (List ℕ)) → map g.F.Placed.bytes l.files ≡ map Some all
      → ArePlaced all l.positions.items l.readers.items;
}
