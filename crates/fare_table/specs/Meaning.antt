-- What the text of a fare table means.
use Rattle.fare_table.specs.{TableMeaning.meaning_in, Zone.IsZoneOf}
use Rattle.std.specs.Prelude.{◌≡◌, ℕ, List, [], Ok}
use Rattle.tariffs.specs.{ClockView.ClockView, Fares.Fares, TableMeaning.TableMeaning}

-- the rule is that of the zone's text
abbrev pub IsClockOf : TableMeaning → ClockView → Type 0
IsClockOf meaning clock = IsZoneOf meaning.zone clock.rule

-- what the text means, and what clocks go by under it, are those of these fares, and no other text
-- follows
abbrev pub Means : List ℕ → Fares → Type 0
Means text fares =
    (meaning_in text ≡ Ok fares.meaning) × IsClockOf fares.meaning fares.zone × (fares.later ≡ [])
