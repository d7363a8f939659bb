-- Parts of a history, and the texts of their ledgers.
use Rattle.fare_texts.specs.Ledger.{IsLedgerOver}
use Rattle.part_texts.specs.{Heads.part_head, HistoryParts.AreIncreasing, HistoryParts.HistoryPart}
use Rattle.part_texts.specs.{HistoryParts.histories_of, Shown.SpanFits}
use Rattle.sorted_taps.specs.Positions.{AreWhole}
use Rattle.std.specs.List.{AllByRecursion}
use Rattle.std.specs.Prelude.{◌≡◌, ◌<◌, ◌^◌, ℕ, List, ◌++◌, None, length, map}
use Rattle.tariffs.specs.Fares.{Fares}

-- the text of the part: where it lies in each file, and the ledger of its history
pub record IsPartLedger (fares : Fares) (part : HistoryPart) (text : List ℕ) : Type 0 where
  pub ledger : List ℕ
  pub over : IsLedgerOver fares part.history None ledger
  pub shown : text ≡ part_head part.spans ++ ledger

-- The parts have as many files each, join from the files' begins to their ends, and rise by token.
pub record DoJoinUp (files : ℕ) (parts : List HistoryPart) : Type 0 where
  pub few : files < 2 ^ 64
  pub number : AllByRecursion (λ p. length p.spans ≡ files) parts
  pub positions : AllByRecursion (λ p. AllByRecursion SpanFits p.spans) parts
  pub whole : AreWhole (map (λ p. p.spans) parts)
  pub increase : AreIncreasing (histories_of parts)
