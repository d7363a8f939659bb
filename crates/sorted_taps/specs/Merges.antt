-- Readers of several files whose taps are merged.
use Rattle.sorted_taps.specs.Merged.{BeginsNotBefore}
use Rattle.sorted_taps.specs.Readers.{ahead, IsPassed, IsPositionedIn}
use Rattle.sorted_taps.specs.{Sorted.IsSortedFile, declared.reader.TapReader.TapReader}
use Rattle.std.specs.Prelude.{◌≡◌, ℕ, ◌<◌, All, List, [], flat_map, get_or, length}
use Rattle.tap_parts.specs.Canonical.{IsCanonical}
use Rattle.tap_views.specs.declared.encoder.TapFields.{TapFields}

-- no reader is at a tap
abbrev pub AreAtEnd : List TapReader → Type 0
AreAtEnd readers = (k : ℕ) (d : TapReader) → k < length readers → ahead (get_or readers k d) ≡ []

-- each file has a reader, which is at the file's first tap, or at its end if it has none
pub record AreStarted (files : List (List ℕ)) (readers : List TapReader) : Type 0 where
  pub number : length readers ≡ length files
  pub each : (k : ℕ) (d : TapReader) → k < length readers
      → IsPositionedIn (get_or files k []) 0 [] (get_or readers k d)

-- these taps were taken: each reader has passed a run of them, the taps are those of all runs in
-- canonical order, and none of them is after a tap at which a reader is now
pub record AreTaken (files : List (List ℕ)) (old : List TapReader) (taps : List TapFields)
    (new : List TapReader) : Type 0 where
  pub runs : List (List TapFields)
  pub number : length runs ≡ length old
  pub as_many : length new ≡ length old
  pub each : (k : ℕ) (d : TapReader) → k < length old
      → IsPassed (get_or files k []) (get_or old k d) (get_or runs k []) (get_or new k d)
  pub canonical : IsCanonical (flat_map (λ run. run) runs) taps
  pub left : (k : ℕ) (d : TapReader) → k < length old
      → All (λ tap. BeginsNotBefore tap (ahead (get_or new k d))) taps

-- each file is sorted, and has the taps of the list at its place
pub record AreSortedFiles (files : List (List ℕ)) (lists : List (List TapFields)) : Type 0 where
  pub number : length lists ≡ length files
  pub each : (k : ℕ) → k < length files → IsSortedFile (get_or files k []) (get_or lists k [])
