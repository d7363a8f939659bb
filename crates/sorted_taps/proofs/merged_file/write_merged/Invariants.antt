use Rattle.std.proofs.Common.{◌≡◌, ◌≤◌, List, ℕ, Some, map, length}
use Rattle.sorted_taps.specs.Merges.{AreStarted, AreTaken}
use Rattle.sorted_taps.specs.{Reading.window_bytes, declared.reader.TapReader.TapReader}
use Rattle.sorted_taps.specs.inside.Waiting.{HasPut, MayWait}
use Rattle.tap_views.specs.declared.encoder.TapFields.{TapFields}
use Rattle.sorted_taps.proofs.merged_file.write_merged.Given as goal

abbrev pub invariant-loop : goal.invariant-loop
invariant-loop g l = record {
  room : window_bytes ≤ length l.window;
  readers : length l.merge.readers.items ≡ length l.files;
  may_wait : MayWait l.waiting.items;
  taps : List TapFields;
  put : HasPut (g.W.Write.contents l.fn.out) (g.W.Write.contents l.out) taps l.waiting.items;
  taken : (all : List (List ℕ)) → map g.F.Placed.bytes l.files ≡ map Some all
      → (started : List TapReader) × AreStarted all started
      × AreTaken all started taps l.merge.readers.items;
}
