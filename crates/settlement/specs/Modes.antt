-- Modes of validators that are kept.
use Rattle.settlement.specs.declared.kept_modes.KeptMode.{KeptMode}
use Rattle.std.specs.Prelude.{◌≡◌, ℕ, ◌<◌, All, IfSome, List, Option, length, option_map}
use Rattle.tariffs.specs.Fares.{Fares, mode_at, mode_in}
use Rattle.tariffs.specs.declared.mode.Mode.{Mode}

-- the validator has the mode at the moment
abbrev pub IsModeAt : Fares → ℕ → ℕ → Option Mode → Type 0
IsModeAt fares moment validator mode =
    option_map (λ (m : Mode). m.position) mode ≡ mode_at fares moment validator

-- the validator has the mode under the fares that are valid first
pub record IsModeOf (fares : Fares) (kept : KeptMode) : Type 0 where
  pub mode : option_map (λ (m : Mode). m.position) kept.mode
      ≡ mode_in fares.meaning kept.validator
  pub within : IfSome kept.mode (λ (m : Mode). m.position < length fares.meaning.modes)

-- each is the mode of its validator
abbrev pub AreModesOf : Fares → List KeptMode → Type 0
AreModesOf fares kept = All (IsModeOf fares) kept
