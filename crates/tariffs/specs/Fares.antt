-- A fare table, as contracts see it, and what is looked up in it.
use Rattle.std.specs.{Cmp.Lexicographic.slice_cmp, List.find, List.list_any, Map.lookup}
use Rattle.std.specs.Ordering.{nat_cmp, is_eq}
use Rattle.std.specs.Prelude.{ℕ, ◌&&◌, ◌||◌, ◌==◌, Bool, not, if◌then◌else◌, List, [], ◌∷◌, length}
use Rattle.std.specs.Prelude.{Option, option_map, unwrap_or, nat_le, slice_index, slice_index_or}
use Rattle.tariffs.specs.{ClockView.ClockView, Prices.price_in, TableMeaning.TableMeaning}
use Rattle.tariffs.specs.{Transfers.has_pair, declared.class.Class.Class, declared.price.Pays.Pays}
use Rattle.tariffs.specs.declared.{terms.Terms.Terms, transfer_terms.TransferTerms.TransferTerms}
use Rattle.tariffs.specs.declared.validators.RangeRest.{RangeRest}

-- what the table's text means, what the texts mean that follow it, each with the moment from which
-- it is valid, and what the clocks of all of them go by
pub record Fares : Type 0 where
  pub meaning : TableMeaning
  pub later : List (ℕ × TableMeaning)
  pub zone : ClockView

-- what is valid at the moment: the first meaning until a later one is valid, and so on
unfoldable pub valid_at : TableMeaning → List (ℕ × TableMeaning) → ℕ → TableMeaning
valid_at meaning [] moment = meaning
valid_at meaning (next ∷ later) moment =
    if nat_le next.0 moment then valid_at next.1 later moment else meaning

-- the meaning that is valid at the moment
unfoldable pub meaning_at : Fares → ℕ → TableMeaning
meaning_at fares moment = valid_at fares.meaning fares.later moment

-- the range has this validator
abbrev pub has_number : ℕ → ℕ × RangeRest → Bool
has_number validator range = nat_le range.0 validator && nat_le validator range.1.last

-- the range of this validator
abbrev pub range_at : List (ℕ × RangeRest) → ℕ → Option (ℕ × RangeRest)
range_at ranges validator = find (has_number validator) ranges

-- the mode of this validator, as a place in the list of modes
abbrev pub mode_in : TableMeaning → ℕ → Option ℕ
mode_in meaning validator = option_map (λ range. range.1.mode) (range_at meaning.ranges validator)

-- the mode that this validator has at the moment
abbrev pub mode_at : Fares → ℕ → ℕ → Option ℕ
mode_at fares moment validator = mode_in (meaning_at fares moment) validator

-- whether a ride includes a transfer from the one mode to the other
abbrev pub is_permitted : TableMeaning → ℕ → ℕ → Bool
is_permitted meaning from to = has_pair meaning.transfers from to

-- what a transfer from the one mode to the other pays, if it is not free
abbrev pub price_of : TableMeaning → ℕ → ℕ → Option Pays
price_of meaning from to = price_in meaning.prices from to

-- whether the table names the price of a transfer
abbrev pub names_price : TableMeaning → Bool
names_price meaning = not (length meaning.prices == 0)

-- whether one of the tables does
abbrev pub has_prices : Fares → Bool
has_prices fares = names_price fares.meaning || list_any (λ next. names_price next.1) fares.later

-- whether there are caps beside `window` or prices (all tables have as many caps)
abbrev pub has_caps_or_prices : Fares → Bool
has_caps_or_prices fares = not (length fares.meaning.caps == 0) || has_prices fares

-- the place of the rider's class: of the rider's own, else of the default class
abbrev pub class_of : TableMeaning → List ℕ → ℕ
class_of meaning token =
    unwrap_or (lookup (λ rider. is_eq (slice_cmp nat_cmp token rider)) meaning.riders)
    meaning.standard

-- a class that no table has: it is the index of no class
abbrev pub no_class : Class
no_class = record {
  terms = record { fare = 0; rides = 0; ceiling = 0 };
  fares = [];
  caps = [];
  transfers = record { taps = 0; time = 0 };
}

-- the class at a place
abbrev pub class_at : TableMeaning → ℕ → Class
class_at meaning position = slice_index_or meaning.classes position no_class

-- what a class pays for a ride on a mode: the mode's fare, under the limits of the class
abbrev pub terms_on : Class → ℕ → Terms
terms_on class mode = record class.terms { fare = slice_index class.fares mode }

-- what the class at the place pays for a ride on the mode
abbrev pub ride_terms : TableMeaning → ℕ → ℕ → Terms
ride_terms meaning position mode = terms_on (class_at meaning position) mode

-- the ceiling of the class at the place for a cap
abbrev pub cap_ceiling : TableMeaning → ℕ → ℕ → ℕ
cap_ceiling meaning position cap = slice_index_or (class_at meaning position).caps cap 100_000_000

-- what the rides of the class at the place give
abbrev pub transfer_terms : TableMeaning → ℕ → TransferTerms
transfer_terms meaning position = (class_at meaning position).transfers

-- what the rider's class pays on a mode of which it names no fare
abbrev pub terms_at : TableMeaning → List ℕ → Terms
terms_at meaning token = (class_at meaning (class_of meaning token)).terms
