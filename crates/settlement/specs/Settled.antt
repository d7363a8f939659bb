-- The one history that uploads are settled as.
use Rattle.histories.specs.{Plain.plain, declared.entry.Entry.Entry}
use Rattle.std.specs.Prelude.{◌≡◌, ℕ, List, map}
use Rattle.tap_parts.specs.{Canonical.IsCanonical, Parts.taps_of_uploads}
use Rattle.tap_views.specs.{Encoding.fields_of, Files.AreValidTapsOfEach, Layout.Tap}
use Rattle.tariffs.specs.Fares.{Fares}

-- The settled history of uploads under a table: all valid taps of the uploads, in canonical order,
-- each with the reply of the account rule for the earlier taps of its token.
pub record IsSettledHistory (fares : Fares) (uploads : List (List ℕ)) (history : List Entry)
    : Type 0 where
  pub taps : List (List Tap)
  pub of_uploads : AreValidTapsOfEach uploads taps
  pub order : List Tap
  pub canonical : IsCanonical (map fields_of (taps_of_uploads taps)) (map fields_of order)
  pub entries : history ≡ plain fares order
