use Rattle.std.proofs.Common.{◌≡◌, ◌≤◌, ◌<◌, ℕ, List, [], Some, map, length, get_or}
use Rattle.sorted_taps.specs.{Readers.IsPositionedIn, Reading.window_bytes}
use Rattle.sorted_taps.specs.declared.reader.TapReader.{TapReader}
use Rattle.sorted_taps.proofs.merge.Merge.begin.Given as goal

abbrev pub invariant-loop-file : goal.invariant-loop-file
invariant-loop-file g l = record {
  room : window_bytes ≤ length l.window;
  number : length l.readers.items ≡ l.file-index;
  each : (all : List (List ℕ)) → map g.F.Placed.bytes l.files ≡ map Some all
      → (k : ℕ) (d : TapReader) → k < length l.readers.items
      → IsPositionedIn (get_or all k []) 0 [] (get_or l.readers.items k d);
}
