-- What a table says of its caps, and the rules of a token by it.
use Rattle.account_rule.specs.{Taps.LiveTap, TokenRules.rules_of, TokenRules.token_class}
use Rattle.fare_caps.specs.{Caps.CapRules, Caps.CappedRules, declared.ride_cap.RideCap.RideCap}
use Rattle.std.specs.Prelude.{ℕ, false, if◌then◌else◌, List, [], ◌∷◌, map, Option, Some, None}
use Rattle.std.specs.Prelude.{slice_index_or}
use Rattle.tariffs.specs.Fares.{Fares, cap_ceiling, has_prices, meaning_at, price_of}
use Rattle.tariffs.specs.{TableMeaning.TableMeaning, Until.window_end_in}
use Rattle.tariffs.specs.declared.{cap_terms.CapTerms.CapTerms, mode.Mode.Mode, price.Pays.Pays}
use Rattle.tariffs.specs.declared.window_span.WindowLength.TheVariants.{CalendarDay}
use Rattle.tariffs.specs.declared.window_span.WindowSpan.{WindowSpan}

-- a cap that no table has: it is at the place of no cap
abbrev pub no_cap : CapTerms
no_cap = record { length = CalendarDay; counts = [] }

-- the cap at a position
abbrev pub cap_at : TableMeaning → ℕ → CapTerms
cap_at meaning index = slice_index_or meaning.caps index no_cap

-- how long the windows of the cap at a position are, and when a day starts
abbrev pub cap_span : TableMeaning → ℕ → WindowSpan
cap_span meaning index = record meaning.window { length = (cap_at meaning index).length }

-- what the cap at a position says of a ride: on a mode, of a class, by their positions
abbrev pub said_of : TableMeaning → ℕ → ℕ → ℕ → RideCap
said_of meaning index mode class = record {
  span = cap_span meaning index;
  counts = slice_index_or (cap_at meaning index).counts mode false;
  ceiling = cap_ceiling meaning class index;
}

-- the rules of the cap at a position for a token
unfoldable pub cap_rules : Fares → List ℕ → ℕ → CapRules
cap_rules fares token index = record {
  until = λ start. window_end_in fares.zone (cap_span (meaning_at fares start) index) start;
  counts = λ ride. (said_of (meaning_at fares ride.moment) index ride.mode.position
      (token_class fares token ride.moment)).counts;
  ceiling = λ ride. (said_of (meaning_at fares ride.moment) index ride.mode.position
      (token_class fares token ride.moment)).ceiling;
}

-- the positions of the caps, at most three
abbrev pub cap_positions : List CapTerms → List ℕ
cap_positions [] = []
cap_positions (first ∷ []) = 0 ∷ []
cap_positions (first ∷ second ∷ []) = 0 ∷ 1 ∷ []
cap_positions (first ∷ second ∷ third ∷ more) = 0 ∷ 1 ∷ 2 ∷ []

-- what a transfer from the mode to the tap pays by what is valid at the tap
unfoldable pub pays_of : Fares → Mode → LiveTap → Option Pays
pays_of fares from tap = price_of (meaning_at fares tap.moment) from.position tap.mode.position

-- the rules of a token under a table: all tables name the same caps
unfoldable pub capped_rules_of : Fares → List ℕ → CappedRules
capped_rules_of fares token = record {
  rules = rules_of fares token;
  caps = map (cap_rules fares token) (cap_positions fares.meaning.caps);
  pays = if has_prices fares then Some (pays_of fares) else None;
}
