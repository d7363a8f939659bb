-- The ledger of a history whose tokens do not fall.
use Rattle.std.proofs.Common.{ℕ, List, [], ◌++◌, None, refl}
use Rattle.fare_texts.proofs.ByToken.{every_token}
use Rattle.fare_texts.specs.{Ledger.IsLedgerOver, LedgerLines.head_text}
use Rattle.fare_texts.specs.Lines.{AreLinesAlong, Nondecreasing}
use Rattle.histories.specs.declared.entry.Entry.{Entry}
use Rattle.std.proofs.lemmas.List.Sorted.{IsPermutation-refl}
use Rattle.tariffs.specs.Fares.{Fares}

-- the lines of entries whose tokens do not fall are their ledger
pub ledger_along : (fares : Fares) (history : List Entry) (text : List ℕ) → Nondecreasing history
    → AreLinesAlong fares [] history text → IsLedgerOver fares history None (head_text ++ text)
ledger_along fares history text nondecreasing along = record {
  lines = text;
  of_each = every_token fares history history text (record {
    moved = IsPermutation-refl history;
    nondecreasing = nondecreasing;
    kept = λ token. refl;
  }) along;
  whole = refl;
}
