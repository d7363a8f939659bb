-- The valid taps of uploads in canonical order, and those of one token among them.
use Rattle.settlement.specs.Posted.{HasName, only}
use Rattle.std.specs.Prelude.{◌≡◌, ℕ, List, All, map}
use Rattle.tap_parts.specs.{Canonical.IsCanonical, Parts.taps_of_uploads}
use Rattle.tap_views.specs.Encoding.{AreEarly, fields_of}
use Rattle.tap_views.specs.{Files.AreValidTapsOfEach, Layout.Tap}
use Rattle.tap_views.specs.declared.{encoder.TapFields.TapFields, token.Token.Token}

-- The list has all valid taps of the uploads, in canonical order. The moments are before 2100, and
-- the 16 bytes of each token name it.
pub record AreSettledTaps (uploads : List (List ℕ)) (order : List TapFields) : Type 0 where
  pub taps : List (List Tap)
  pub of_uploads : AreValidTapsOfEach uploads taps
  pub canonical : IsCanonical (map fields_of (taps_of_uploads taps)) order
  pub early : AreEarly (λ (tap : TapFields). tap.moment) order
  pub named : All HasName order

-- the list has the token's taps among the valid taps of the uploads, in canonical order
pub record AreSettledTapsOf (uploads : List (List ℕ)) (token : Token) (taps : List TapFields)
    : Type 0 where
  pub order : List TapFields
  pub settled : AreSettledTaps uploads order
  pub own : taps ≡ only token order
