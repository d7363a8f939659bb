-- Lines of taps, posted one after the other.
use Rattle.fare_texts.specs.Lines.{AreLinesAlong, HasConsumed}
use Rattle.fare_texts.specs.declared.explainer.Explainer.{Explainer}
use Rattle.histories.specs.declared.entry.Entry.{Entry}
use Rattle.settlement.specs.Nondecreasing.{TapsNondecreasingFrom, last_token}
use Rattle.settlement.specs.Posted.{posted_after}
use Rattle.std.specs.Prelude.{◌≡◌, ◌+◌, ◌^◌, ◌<◌, ◌≤◌, ℕ, List, ◌++◌, length}
use Rattle.tap_views.specs.{Encoding.AreEarly, declared.encoder.TapFields.TapFields}
use Rattle.tariffs.specs.Fares.{Fares}

-- these are the lines of taps that follow the entries, and the explainer has consumed all of them
pub record AreExplained (fares : Fares) (earlier : List Entry) (taps : List TapFields)
    (explainer : Explainer)
    (lines : List ℕ) : Type 0 where
  pub are : AreLinesAlong fares earlier (posted_after fares earlier taps) lines
  pub consumed : HasConsumed fares explainer (earlier ++ posted_after fares earlier taps)

-- The taps can be explained next: their moments are before 2100, their tokens do not fall from the
-- explainer's, which has consumed some entries, and they can be counted.
pub record MayExplain (fares : Fares) (explainer : Explainer) (taps : List TapFields) : Type 0 where
  pub early : AreEarly (λ (tap : TapFields). tap.moment) taps
  pub nondecreasing : TapsNondecreasingFrom explainer.token taps
  pub earlier : List Entry
  pub consumed : HasConsumed fares explainer earlier
  pub room : explainer.number + length taps < 2 ^ 64

-- The explainer went on by the taps. What is said of lines holds of those of the taps, after
-- whatever entries it had consumed.
pub record Explains (fares : Fares) (old : Explainer) (taps : List TapFields) (new : Explainer)
    (said : List ℕ → Type 0) : Type 0 where
  pub lines : (earlier : List Entry) → HasConsumed fares old earlier
      → (lines : List ℕ) × AreExplained fares earlier taps new lines × said lines
  pub token : new.token ≡ last_token old.token taps
  pub few : new.number ≤ old.number + length taps

-- what is said of lines holds of those of the taps, after whatever entries the explainer consumed
abbrev pub HaveLines : Fares → Explainer → List TapFields → (List ℕ → Type 0) → Type 0
HaveLines fares explainer taps said =
    (earlier : List Entry) → HasConsumed fares explainer earlier
    → (lines : List ℕ) × AreLinesAlong fares earlier (posted_after fares earlier taps) lines
    × said lines
