-- Ledgers that are read row by row.
use Rattle.ledger_changes.specs.Ledgers.{cons_row, rows_from}
use Rattle.ledger_changes.specs.declared.fault.{Bill.Bill, CorrectionsFault.CorrectionsFault}
use Rattle.ledger_changes.specs.declared.fault.CorrectionsFault.TheVariants.{Line, Unread, NoMemory}
use Rattle.ledger_changes.specs.declared.fault.WrongLine.{WrongLine}
use Rattle.ledger_changes.specs.declared.ledger_rows.LedgerRows.{LedgerRows}
use Rattle.ledger_changes.specs.{declared.row.LedgerRow.LedgerRow, inside.Views.row_in}
use Rattle.ledger_fields.specs.Rows.{Row}
use Rattle.line_folds.specs.Folds.{lines_of}
use Rattle.recorded_lines.specs.{Texts.IsEndAt, Texts.left, Unread.IsUnread}
use Rattle.std.specs.Prelude.{◌≡◌, ◌+◌, ℕ, List, [], Option, None, Some, Result, Ok, Err}
use Rattle.world.specs.Run.{Calls}

-- the rows from this one on, of which the line has this number, with this text after it
abbrev pub rows_with : Option Row → ℕ → List ℕ → Result (List Row) (ℕ × WrongLine)
rows_with None number text = Ok []
rows_with (Some row) number text = cons_row row (rows_from (number + 1) (Some row) (lines_of text))

-- the rows that a ledger still has, if this is its whole text
abbrev pub rows_at : LedgerRows → List ℕ → Result (List Row) (ℕ × WrongLine)
rows_at ledger whole = rows_with (row_in ledger.row) ledger.number (left ledger.from whole)

-- it was read to its end, if it is at no row
abbrev pub HasEnded : LedgerRows → Type 0
HasEnded ledger = ledger.row ≡ None → IsEndAt ledger.from

-- A line that is refused is the bill's, and the first wrong one. A read of it failed, if it is not
-- read.
abbrev pub IsWrongAs : Bill → Calls → Result (List Row) (ℕ × WrongLine) → CorrectionsFault → Type 0
IsWrongAs bill calls said (Line which number why) = (which ≡ bill) × (said ≡ Err (number, why))
IsWrongAs bill calls said (Unread which) = (which ≡ bill) × IsUnread calls
IsWrongAs bill calls said NoMemory = Unit {0}

-- the line of this number was read, of lines that say this, and its row and the text left do
abbrev pub ReadsRow : Bill → ℕ → Calls → Result (List Row) (ℕ × WrongLine) → List ℕ
    → Result (Option LedgerRow) CorrectionsFault → Type 0
ReadsRow bill number calls said rest (Ok row) = said ≡ rows_with (row_in row) number rest
ReadsRow bill number calls said rest (Err fault) = IsWrongAs bill calls said fault

-- the rows from this one on, if there is one
abbrev pub with_row : Option Row → Result (List Row) (ℕ × WrongLine) → Result (List Row) (ℕ × WrongLine)
with_row None said = said
with_row (Some row) said = cons_row row said
