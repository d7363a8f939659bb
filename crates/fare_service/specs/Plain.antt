-- What was gathered from uploads of which none was cut.
use Rattle.fare_service.specs.{Headline.Headline, Outcomes.OutcomeView, Shares.Worked}
use Rattle.histories.specs.{Plain.IsPlain, declared.entry.Entry.Entry}
use Rattle.std.specs.Prelude.{◌≡◌, ℕ, List, slice_get, Some, All, Contains}
use Rattle.tap_views.specs.{Layout.Tap, declared.upload_end.UploadEnd.UploadEnd}
use Rattle.tap_views.specs.declared.upload_end.UploadEnd.TheVariants.{Posted, Refused, Cut, Undrawn}
use Rattle.tariffs.specs.Fares.{Fares}

-- no token has taps in two uploads
abbrev pub AreApart : List (List Tap) → Type 0
AreApart taps =
    (first second : ℕ) (ones others : List Tap) (tap other : Tap) → slice_get taps first ≡ Some ones
    → slice_get taps second ≡ Some others
    → Contains ones tap → Contains others other → tap.token ≡ other.token → first ≡ second

-- all batches before the upload's first fault were posted whole
abbrev pub WasNotCut : UploadEnd → Type 0
WasNotCut (Posted taps) = Unit {0}
WasNotCut (Refused taps offset fault) = Unit {0}
WasNotCut (Cut taps) = ⊥
WasNotCut Undrawn = ⊥

-- The headline holds, no upload was cut or left undrawn, and no token has taps in two uploads. The
-- history is the plain one of the uploads.
pub record IsUncutGathering (fares : Fares) (shards : ℕ) (uploads : List (List ℕ))
    (outcome : OutcomeView) (history : List Entry) : Type 0 where
  pub works : List (List Worked)
  pub headline : Headline fares shards uploads works outcome
  pub whole : All WasNotCut outcome.ends
  pub plain_is : IsPlain fares uploads history
  pub apart : AreApart plain_is.taps
