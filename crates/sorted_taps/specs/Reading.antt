-- Taps at the front of some bytes, and between two offsets of a file.
use Rattle.std.specs.Prelude.{◌≡◌, ℕ, List, [], ◌∷◌, ◌++◌, map, drop}
use Rattle.tap_views.specs.{Encoding.fields_of, Files.taps_of_batches, Layout.Tap, Layout.IsBatch}
use Rattle.tap_views.specs.declared.encoder.TapFields.{TapFields}

-- the bytes of the longest batch: a header of 8, and 4,096 taps of 28
abbrev pub window_bytes : ℕ
window_bytes = 114696

-- the bytes are these batches, one after the other, and then the rest
abbrev pub AreBatches : List ℕ → List (List Tap) → List ℕ → Type 0
AreBatches bytes [] rest = bytes ≡ rest
AreBatches bytes (batch ∷ batches) rest =
    (front : List ℕ) × (back : List ℕ) × IsBatch front batch × (bytes ≡ front ++ back)
    × AreBatches back batches rest

-- the bytes are batches of these taps, and then the rest
pub record AreFrontTaps (bytes rest : List ℕ) (taps : List TapFields) : Type 0 where
  pub batches : List (List Tap)
  pub are : AreBatches bytes batches rest
  pub read : map fields_of (taps_of_batches batches) ≡ taps

-- the bytes of the file between two offsets are batches of these taps
abbrev pub AreTapsBetween : List ℕ → ℕ → ℕ → List TapFields → Type 0
AreTapsBetween all from to taps = AreFrontTaps (drop from all) (drop to all) taps
