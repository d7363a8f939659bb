use Rattle.std.proofs.Common.{◌≡◌, ℕ, List, ◌++◌, string_bytes, take}
use Rattle.fare_texts.specs.Explained.{AreEarlierLines}
use Rattle.fare_texts.proofs.explained.window_lines.write_earlier.Given as goal

abbrev pub invariant-loop-window : goal.invariant-loop-window
invariant-loop-window l = record {
  written : List ℕ;
  are : AreEarlierLines l.clock (take l.window-index l.windows) written;
  whole : string_bytes l.text ≡ string_bytes l.fn.text ++ written;
}
