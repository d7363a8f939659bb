-- Listing: what private functions alone cite.
use Rattle.std.specs.Prelude.{◌≡◌, List, fold, Option, string_bytes}
use Rattle.tap_views.specs.Layout.{Tap}
use Rattle.tariffs.specs.Fares.{Fares}
use Rattle.fare_program.specs.Listing.{IsListingOf, Listed, with_tap}
use Rattle.fare_program.specs.declared.lister.Lister.{Lister}

-- the text has come to this
pub record IsAt (fares : Option Fares) (lister : Lister) (listed : Listed) : Type 0 where
  pub taps : IsListingOf lister.listing listed.taps
  pub upload : lister.upload ≡ listed.upload
  pub number : lister.number ≡ listed.number
  pub is_clean : lister.is_clean ≡ listed.is_clean
  pub text : string_bytes lister.text ≡ listed.text

-- a text went on with these taps, whatever it had come to
abbrev pub Lists : Option Fares → Lister → Lister → List Tap → Type 0
Lists fares old new taps =
    (listed : Listed) → IsAt fares old listed → IsAt fares new (fold (with_tap fares) listed taps)
