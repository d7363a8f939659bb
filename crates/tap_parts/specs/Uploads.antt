-- Whole uploads whose taps are added to parts.
use Rattle.std.specs.Prelude.{◌≡◌, ℕ, List, length}
use Rattle.tap_parts.specs.{Parts.AreAddedBy, declared.upload.UploadTaps.UploadTaps}
use Rattle.tap_views.specs.Files.{IsReadAs, taps_of_batches}
use Rattle.tap_views.specs.{Layout.Tap, declared.encoder.TapFields.TapFields}

-- the upload's taps before its first layout fault were added, each at its place; the upload's end
-- has their number, and the fault after them
pub record IsUploadAddedBy (position_of : List ℕ → ℕ) (upload : List ℕ)
    (old new : List (List TapFields)) (end : UploadTaps) : Type 0 where
  pub batches : List (List Tap)
  pub read : IsReadAs upload batches end.fault
  pub number : end.taps ≡ length (taps_of_batches batches)
  pub added : AreAddedBy position_of (taps_of_batches batches) old new
