-- Uploads that have the same taps.
use Rattle.std.specs.{List.Sorted.IsPermutation, Prelude.ℕ, Prelude.List, Prelude.map}
use Rattle.tap_parts.specs.Parts.{taps_of_uploads}
use Rattle.tap_views.specs.{Encoding.fields_of, Files.AreValidTapsOfEach, Layout.Tap}

-- the valid taps of the uploads are those of the others, in some order
pub record HaveSameTaps (uploads others : List (List ℕ)) : Type 0 where
  pub taps : List (List Tap)
  pub other_taps : List (List Tap)
  pub of_uploads : AreValidTapsOfEach uploads taps
  pub of_others : AreValidTapsOfEach others other_taps
  pub moved : IsPermutation (map fields_of (taps_of_uploads taps))
      (map fields_of (taps_of_uploads other_taps))
