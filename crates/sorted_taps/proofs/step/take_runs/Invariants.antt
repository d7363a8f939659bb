use Rattle.std.proofs.Common.{◌≡◌, ◌<◌, ◌≤◌, ◌++◌, ℕ, List, [], Some, get_or, length, map}
use Rattle.sorted_taps.proofs.Taking.{all_of}
use Rattle.sorted_taps.specs.{Reading.window_bytes, declared.reader.TapReader.TapReader}
use Rattle.sorted_taps.specs.inside.Limits.{IsPassedUpTo}
use Rattle.std.specs.{List.Sorted.IsSorted, Prelude.IsTrue}
use Rattle.tap_parts.specs.{Canonical.tap_cmp, Keys.tap_of_key}
use Rattle.tap_views.specs.declared.encoder.TapFields.{TapFields}
use Rattle.sorted_taps.proofs.step.take_runs.Given as goal

-- the readers before this one have passed runs, and the others are where they were
abbrev pub invariant-loop-at : goal.invariant-loop-at
invariant-loop-at g l = record {
  room : window_bytes ≤ length l.window;
  runs : List (List TapFields);
  number : length runs ≡ l.at;
  items : l.taps.items ≡ l.fn.taps.items ++ all_of runs;
  sorted : IsTrue l.in_order → IsSorted tap_cmp (all_of runs);
  rest : (k : ℕ) (d : TapReader) → l.at ≤ k → get_or l.readers k d ≡ get_or l.fn.readers k d;
  each : (files : List (List ℕ)) → map g.F.Placed.bytes l.files ≡ map Some files
      → (k : ℕ) (d : TapReader) → k < l.at
      → IsPassedUpTo (get_or files k []) (tap_of_key l.limit) (get_or l.fn.readers k d)
      (get_or runs k []) (get_or l.readers k d);
}
