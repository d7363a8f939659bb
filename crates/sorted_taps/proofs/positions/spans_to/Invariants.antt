use Rattle.std.proofs.Common.{◌≡◌, ◌≤◌, List, ℕ, Some, map, length}
use Rattle.sorted_taps.specs.{Positions.DoSpan, Reading.window_bytes}
use Rattle.sorted_taps.proofs.positions.spans_to.Given as goal

-- the files so far have spans
abbrev pub invariant-loop-at : goal.invariant-loop-at
invariant-loop-at g l = record {
  room : window_bytes ≤ length l.window;
  number : length l.spans.items ≡ l.at;
  spanned : (all : List (List ℕ)) → map g.F.Placed.bytes l.files ≡ map Some all
      → DoSpan all l.positions l.readers l.spans.items;
}
