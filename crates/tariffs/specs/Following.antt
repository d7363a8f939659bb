-- When one table can follow others from a moment on.
use Rattle.std.specs.Prelude.{◌≡◌, ◌≢◌, ℕ, ◌<◌, ◌≤◌, List, [], ◌∷◌, ◌++◌}
use Rattle.tariffs.specs.{Fares.Fares, TableMeaning.TableMeaning}
use Rattle.tariffs.specs.declared.follow_fault.FollowFault.{FollowFault}
use Rattle.tariffs.specs.declared.follow_fault.FollowFault.TheVariants.{Caps, Date, Followed, Modes}
use Rattle.tariffs.specs.declared.follow_fault.FollowFault.TheVariants.{NoMemory, Zone}

-- the moment from which the last of these is valid, else the earlier one
abbrev pub last_from : ℕ → List (ℕ × TableMeaning) → ℕ
last_from earlier [] = earlier
last_from earlier (next ∷ later) = last_from next.0 later

-- the tables, and one more that is valid from the moment on
abbrev pub with_next : Fares → ℕ → TableMeaning → Fares
with_next fares from next = record fares { later = fares.later ++ (from, next) ∷ [] }

-- The next table can follow from the moment on: the tables before it are valid from earlier
-- moments, the first one from 0 on, it has their zone, their modes and the names of their caps, and
-- none follows it already.
pub record CanFollow (fares : Fares) (from : ℕ) (next : Fares) : Type 0 where
  pub date : last_from 0 fares.later < from
  pub zone : next.meaning.zone ≡ fares.meaning.zone
  pub modes : next.meaning.modes ≡ fares.meaning.modes
  pub caps : next.meaning.cap_names ≡ fares.meaning.cap_names
  pub alone : next.later ≡ []

-- the first of these that does not hold, or that all hold and an allocation failed
abbrev pub IsFollowFault : Fares → ℕ → Fares → FollowFault → Type 0
IsFollowFault fares from next Date = from ≤ last_from 0 fares.later
IsFollowFault fares from next Zone =
    (last_from 0 fares.later < from) × (next.meaning.zone ≢ fares.meaning.zone)
IsFollowFault fares from next Modes =
    (last_from 0 fares.later < from) × (next.meaning.zone ≡ fares.meaning.zone)
    × (next.meaning.modes ≢ fares.meaning.modes)
IsFollowFault fares from next Caps =
    (last_from 0 fares.later < from) × (next.meaning.zone ≡ fares.meaning.zone)
    × (next.meaning.modes ≡ fares.meaning.modes)
    × (next.meaning.cap_names ≢ fares.meaning.cap_names)
IsFollowFault fares from next Followed =
    (last_from 0 fares.later < from) × (next.meaning.zone ≡ fares.meaning.zone)
    × (next.meaning.modes ≡ fares.meaning.modes)
    × (next.meaning.cap_names ≡ fares.meaning.cap_names) × (next.later ≢ [])
IsFollowFault fares from next NoMemory = CanFollow fares from next
