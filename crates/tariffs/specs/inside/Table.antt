-- What holds of the tariffs of every fare table, and what contracts see of them.
use Rattle.std.specs.{Arc.arc_value, Cmp.Lexicographic.pointwise, List.list_any}
use Rattle.std.specs.Prelude.{◌≡◌, ℕ, ◌<◌, ◌≤◌, suc, if◌then◌else◌, nat_le, List, [], ◌∷◌, All}
use Rattle.std.specs.Prelude.{◌==◌, ◌||◌, not, Bool, true, false, length, map, Option, Some, None}
use Rattle.tariffs.specs.Fares.{Fares, names_price}
use Rattle.tariffs.specs.{Names.same_name, TableMeaning.TableMeaning, TariffView.TariffView}
use Rattle.tariffs.specs.declared.table.DatedTariff.{DatedTariff}

-- the moment from which a tariff is valid that follows others, and what its text means
abbrev pub dated_meaning : DatedTariff → ℕ × TableMeaning
dated_meaning dated = (dated.from, (arc_value dated.tariff).meaning)

-- what contracts see of a tariff and of those that follow it
abbrev pub fares_of : TariffView → List DatedTariff → Fares
fares_of first later = record {
  meaning = first.meaning;
  later = map dated_meaning later;
  zone = first.zone;
}

-- the moment from which the first of the tables is valid that follow, and the greatest one if none
-- does
abbrev pub first_from : List (ℕ × TableMeaning) → ℕ
first_from [] = 18_446_744_073_709_551_615
first_from (next ∷ later) = next.0

-- the table has these modes
abbrev pub HasModes : List (List ℕ) → ℕ × TableMeaning → Type 0
HasModes modes next = next.1.modes ≡ modes

-- the first date is at hand, or 0 if there are caps or prices, it is known whether there are
-- prices, and all tables have the modes of the first one
pub record AreDated (meaning : TableMeaning) (priced : Bool) (until : ℕ)
    (later : List (ℕ × TableMeaning)) : Type 0 where
  pub first : until ≤ first_from later
  pub known : priced
      ≡ (names_price meaning || list_any (λ next. names_price next.1) later)
  pub plain : 0 < until → (not (length meaning.caps == 0) || priced) ≡ false
  pub alike : All (HasModes meaning.modes) later

-- how many of the tables that follow are valid at the moment or were before, up to the first that
-- is not yet
abbrev pub started : ℕ → List (ℕ × TableMeaning) → ℕ
started moment [] = 0
started moment (next ∷ later) = if nat_le next.0 moment then suc (started moment later) else 0

-- whether both are the same names in the same order
abbrev pub same_names : List (List ℕ) → List (List ℕ) → Bool
same_names names others = pointwise same_name names others

-- whether both are the text of one zone, or none
abbrev pub same_zone : Option (List ℕ) → Option (List ℕ) → Bool
same_zone None None = true
same_zone None (Some _) = false
same_zone (Some _) None = false
same_zone (Some text) (Some other) = same_name text other
