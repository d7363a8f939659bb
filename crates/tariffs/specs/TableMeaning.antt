-- What a fare table means, whatever text it was read from.
use Rattle.std.specs.Prelude.{ℕ, List, Option}
use Rattle.tariffs.specs.declared.{cap_terms.CapTerms.CapTerms, class.Class.Class}
use Rattle.tariffs.specs.declared.{price.Price.Price, validators.RangeRest.RangeRest}
use Rattle.tariffs.specs.declared.window_span.WindowSpan.{WindowSpan}

-- the modes' names by their places, the pairs of places with a transfer, each once, the prices of
-- those that are not free, the classes by their places, their names by the same places, the caps
-- beside `window` and their names by their places, the place of the default class, the ranges of
-- validators by their first numbers, increasing, the places of the riders' classes by their tokens,
-- increasing, the text of the zone, and how long windows are and when a day starts
pub record TableMeaning : Type 0 where
  pub modes : List (List ℕ)
  pub transfers : List (ℕ × ℕ)
  pub prices : List Price
  pub classes : List Class
  pub names : List (List ℕ)
  pub caps : List CapTerms
  pub cap_names : List (List ℕ)
  pub standard : ℕ
  pub ranges : List (ℕ × RangeRest)
  pub riders : List (List ℕ × ℕ)
  pub zone : Option (List ℕ)
  pub window : WindowSpan
