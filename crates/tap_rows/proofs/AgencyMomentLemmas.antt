-- The moment of a clock with an offset.
use Rattle.std.proofs.Common.{◌≡◌, ◌≢◌, ℕ, List, Some, ap, eqb-true, false, length, refl, true}
use Rattle.std.specs.Prelude.{◌==◌, Bool, Option, if◌then◌else◌}
use Rattle.tap_rows.specs.AgencyMoments.{after_fraction, clock_moment, instant_in, moment_of}
use Rattle.tap_rows.specs.AgencyMoments.{local_moment, offset_in, offset_moment}
use Rattle.tap_rows.specs.declared.agency.choice.{LocalClock.LocalClock, Unit.Unit}

pub with_offset : (unit : Unit) (local : Option LocalClock) (text offset : List ℕ)
    → length (after_fraction text) ≢ 0
    → Some offset ≡ offset_in (after_fraction text)
    → moment_of unit (instant_in text offset) ≡ clock_moment unit local text
with_offset unit local text offset some found = by (length (after_fraction text) == 0) refl
  where
    by : (b : Bool) → (length (after_fraction text) == 0) ≡ b
        → moment_of unit (instant_in text offset) ≡ (if b then local_moment unit local text
        else offset_moment unit text (offset_in (after_fraction text)))
    by true none = absurd (some (eqb-true (length (after_fraction text)) 0 none))
    by false other = ap (offset_moment unit text) found
