-- Parts of sorted files: the taps between two places of each file, posted in canonical order.
use Rattle.histories.specs.{SumsByKey.token_of, declared.entry.Entry.Entry}
use Rattle.settlement.specs.Posted.{HasName, posted}
use Rattle.sorted_taps.specs.{Positions.AreSpanned, declared.positions.FileSpan.FileSpan}
use Rattle.std.specs.Prelude.{◌≡◌, ℕ, ◌+◌, List, [], ◌∷◌, All, flat_map, length, map}
use Rattle.tap_parts.specs.Canonical.{IsCanonical}
use Rattle.tap_views.specs.{TokenOrder.AreBelow, declared.encoder.TapFields.TapFields}
use Rattle.tariffs.specs.Fares.{Fares}

-- The files have the taps of the lists between the places of the spans. The history is that of all
-- these taps, posted in canonical order.
pub record IsPartOf (fares : Fares) (files : List (List ℕ)) (spans : List FileSpan)
    (lists : List (List TapFields)) (history : List Entry) : Type 0 where
  pub taps : List TapFields
  pub spanned : AreSpanned files spans lists
  pub canonical : IsCanonical (flat_map (λ list. list) lists) taps
  pub named : All HasName taps
  pub posted_are : history ≡ posted fares taps

-- what a part has: where it lies in each file, the taps that each file has there, and their history
pub record PartView : Type 0 where
  pub spans : List FileSpan
  pub lists : List (List TapFields)
  pub history : List Entry

-- each of these is a part of the files
abbrev pub ArePartsOf : Fares → List (List ℕ) → List PartView → Type 0
ArePartsOf fares files parts =
    All (λ part. IsPartOf fares files part.spans part.lists part.history) parts

-- each history's tokens are below those of all later ones
abbrev pub AreIncreasing : List (List Entry) → Type 0
AreIncreasing [] = Unit {0}
AreIncreasing (history ∷ later) =
    AreBelow (map token_of history) (map token_of (flat_map (λ entries. entries) later))
    × AreIncreasing later

-- numbers added up, one by one
abbrev pub added : List ℕ → List ℕ → List ℕ
added [] others = others
added (number ∷ numbers) [] = number ∷ numbers
added (number ∷ numbers) (other ∷ others) = (number + other) ∷ added numbers others

-- how many taps the parts have of each file
abbrev pub numbers_of_parts : List PartView → List ℕ
numbers_of_parts [] = []
numbers_of_parts (part ∷ parts) = added (map length part.lists) (numbers_of_parts parts)
