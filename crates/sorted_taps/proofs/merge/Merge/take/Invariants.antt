use Rattle.std.proofs.Common.{◌≡◌, ◌≤◌, ℕ, List, Some, length, map}
use Rattle.sorted_taps.specs.{Merges.AreTaken, Reading.window_bytes}
use Rattle.sorted_taps.proofs.merge.Merge.take.Given as goal

abbrev pub invariant-loop : goal.invariant-loop
invariant-loop g l = record {
  room : window_bytes ≤ length l.window;
  number : length l.self.readers.items ≡ length l.files;
  taken : (all : List (List ℕ)) → map g.F.Placed.bytes l.files ≡ map Some all
      → AreTaken all l.fn.self.readers.items l.taps.items l.self.readers.items;
}
