-- Uploads whose taps are split into parts: what private functions alone cite.
use Rattle.settlement.specs.inside.Billing.{AreRangesFrom}
use Rattle.std.specs.List.Sorted.{IsPermutation}
use Rattle.std.specs.Prelude.{ℕ, List, flat_map, map}
use Rattle.tap_parts.specs.Parts.{taps_of_uploads}
use Rattle.tap_views.specs.{Encoding.fields_of, Files.AreValidTapsOfEach, Layout.Tap}
use Rattle.tap_views.specs.UploadEnds.{ArePlainEnds}
use Rattle.tap_views.specs.declared.{encoder.TapFields.TapFields, upload_end.UploadEnd.UploadEnd}

-- Each upload ends as its bytes call for. The parts have the uploads' valid taps, and are ranges of
-- tokens, one after the other.
pub record AreSplit (uploads : List (List ℕ)) (ends : List UploadEnd)
    (parts : List (List TapFields)) : Type 0 where
  pub ended : ArePlainEnds uploads ends
  pub taps : List (List Tap)
  pub of_uploads : AreValidTapsOfEach uploads taps
  pub moved : IsPermutation (map fields_of (taps_of_uploads taps)) (flat_map (λ part. part) parts)
  pub bounds : List ℕ
  pub ranges : AreRangesFrom bounds 0 parts
