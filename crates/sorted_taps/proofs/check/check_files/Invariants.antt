use Rattle.std.proofs.Common.{◌≡◌, ◌≤◌, ℕ, List, Some, map, length}
use Rattle.sorted_taps.specs.{Checked.AreSortedBelow, Reading.window_bytes}
use Rattle.sorted_taps.proofs.check.check_files.Given as goal

abbrev pub invariant-loop-index : goal.invariant-loop-index
invariant-loop-index g l = record {
  room : window_bytes ≤ length l.window;
  sorted : (all : List (List ℕ)) → map g.F.Placed.bytes l.files ≡ map Some all
      → AreSortedBelow all l.index;
}
