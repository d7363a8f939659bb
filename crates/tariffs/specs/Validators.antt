-- Ranges of validators and their modes.
use Rattle.std.specs.{List.list_all, Option.option_or}
use Rattle.std.specs.Prelude.{ℕ, ◌&&◌, Bool, true, List, [], ◌∷◌, Option, Some, None, nat_le}
use Rattle.std.specs.Prelude.{nat_lt, if◌then◌else◌}
use Rattle.tariffs.specs.declared.validators.RangeRest.{RangeRest}

-- each range begins no later than it ends, and ends before the next one begins
abbrev pub are_disjoint : List (ℕ × RangeRest) → Bool
are_disjoint [] = true
are_disjoint (range ∷ []) = nat_le range.0 range.1.last
are_disjoint (range ∷ next ∷ more) =
    nat_le range.0 range.1.last && nat_lt range.1.last next.0 && are_disjoint (next ∷ more)

-- each range's mode is one of this number of modes
abbrev pub are_modes_below : ℕ → List (ℕ × RangeRest) → Bool
are_modes_below count ranges = list_all (λ range. nat_lt range.1.mode count) ranges

-- the last range that begins at the number or before it, of ranges that rise
abbrev pub last_started : ℕ → List (ℕ × RangeRest) → Option (ℕ × RangeRest)
last_started number [] = None
last_started number (range ∷ more) =
    if nat_le range.0 number then option_or (last_started number more) (Some range) else None
