-- Parts of a history, and the texts of their reports.
use Rattle.histories.specs.{Sums.sums, SumsByKey.sums_by_token, SumsByKey.sums_by_validator}
use Rattle.histories.specs.{SumsByKey.token_of, declared.entry.Entry.Entry}
use Rattle.part_texts.specs.Shown.{PartReport, SpanFits, sum_up}
use Rattle.report_texts.specs.Numbers.{AreCounts, IsTokenSum, IsValidatorSum}
use Rattle.sorted_taps.specs.{Positions.AreWhole, declared.positions.FileSpan.FileSpan}
use Rattle.std.specs.List.{AllByRecursion}
use Rattle.std.specs.Prelude.{◌≡◌, ◌+◌, ◌<◌, ◌^◌, ℕ, List, [], ◌∷◌, flat_map, length, map}
use Rattle.tap_views.specs.TokenOrder.{AreBelow}

-- where a part lies in each file, how many taps each file has there, and the history of the taps
pub record HistoryPart : Type 0 where
  pub spans : List FileSpan
  pub taps : List ℕ
  pub history : List Entry

abbrev pub report_of : HistoryPart → PartReport
report_of p = record {
  spans = p.spans;
  taps = p.taps;
  totals = sums p.history;
  validators = sums_by_validator p.history;
  tokens = sums_by_token p.history;
}

-- each history's tokens are below those of all later ones
abbrev pub AreIncreasing : List (List Entry) → Type 0
AreIncreasing [] = Unit {0}
AreIncreasing (history ∷ later) =
    AreBelow (map token_of history) (map token_of (flat_map (λ entries. entries) later))
    × AreIncreasing later

-- numbers added up, one by one
abbrev pub added : List ℕ → List ℕ → List ℕ
added [] others = others
added (number ∷ numbers) [] = number ∷ numbers
added (number ∷ numbers) (other ∷ others) = (number + other) ∷ added numbers others

-- how many taps the parts have of each file
abbrev pub numbers_of : List HistoryPart → List ℕ
numbers_of [] = []
numbers_of (part ∷ parts) = added part.taps (numbers_of parts)

abbrev pub histories_of : List HistoryPart → List (List Entry)
histories_of parts = map (λ part. part.history) parts

abbrev pub whole_history : List HistoryPart → List Entry
whole_history parts = flat_map (λ entries. entries) (histories_of parts)

-- the numbers of the part's report fit 64 bits
pub record Fits (p : HistoryPart) : Type 0 where
  pub files : length p.spans < 2 ^ 64
  pub spans : AllByRecursion SpanFits p.spans
  pub uploads : length p.taps ≡ length p.spans
  pub posted : sum_up p.taps ≡ length p.history
  pub totals : AreCounts (sums p.history)
  pub validators : AllByRecursion IsValidatorSum (sums_by_validator p.history)
  pub tokens : AllByRecursion IsTokenSum (sums_by_token p.history)

-- The parts have as many files each, join from the files' begins to their ends, and rise by token.
-- All of them have fewer than 2^64 taps, and their numbers fit.
pub record AreRight (files : ℕ) (parts : List HistoryPart) : Type 0 where
  pub number : AllByRecursion (λ p. length p.spans ≡ files) parts
  pub whole : AreWhole (map (λ p. p.spans) parts)
  pub increase : AreIncreasing (histories_of parts)
  pub fit : AllByRecursion Fits parts
  pub few : length (whole_history parts) < 2 ^ 64
