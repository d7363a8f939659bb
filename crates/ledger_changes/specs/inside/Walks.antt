-- What the loop over two ledgers gives.
use Rattle.ledger_changes.specs.{Given.IsWalked, Tokens.TokenSum, Tokens.corrections_of}
use Rattle.ledger_changes.specs.declared.ledger_rows.LedgerRows.{LedgerRows}
use Rattle.ledger_changes.specs.inside.Readings.{rows_at}
use Rattle.recorded_lines.specs.Texts.{CanBe, calls_of}
use Rattle.std.specs.Prelude.{◌≡◌, ℕ, Bool, List, [], Option, None, Some, Ok}

-- The corrections go on after this text; or it is whole, and so many lines are removed: nothing is
-- left of both ledgers.
abbrev pub WalksOn : Bool → Option ℕ → List ℕ → ℕ → Option TokenSum → LedgerRows → LedgerRows → Type 0
WalksOn by_token None text removed last old new = IsWalked by_token text removed last old new
WalksOn by_token (Some count) text removed last old new =
    (o n : List ℕ) → CanBe (calls_of old.from) o → CanBe (calls_of new.from) n
    → (corrections_of by_token o n ≡ Some (text, count)) × (rows_at old o ≡ Ok []) × (rows_at new n ≡ Ok [])
