-- What is read: settled ledgers, as far as corrections look at them.
use Rattle.fare_texts.specs.LedgerLines.{head_text}
use Rattle.ledger_changes.specs.{Rows.key_cmp, declared.fault.WrongLine.WrongLine}
use Rattle.ledger_changes.specs.declared.fault.WrongLine.TheVariants.{Form, Order}
use Rattle.ledger_fields.specs.{Lines.row_in, Rows.Row}
use Rattle.line_folds.specs.Folds.{carry, lines_of}
use Rattle.std.specs.{Ordering.is_lt, Prelude.◌+◌, Prelude.ℕ, Prelude.Bool, Prelude.false}
use Rattle.std.specs.Prelude.{List, [], ◌∷◌, cond, length, nat_lt, Option, None, Some, Result, Ok}
use Rattle.std.specs.{Prelude.Err, Str.bytes_eq}

-- the row belongs before the one before it
abbrev pub does_decrease : Option Row → Row → Bool
does_decrease None row = false
does_decrease (Some before) row = is_lt (key_cmp row.key before.key)

abbrev pub placed : Option Row → Option Row → Result Row WrongLine
placed before None = Err Form
placed before (Some row) = cond (does_decrease before row) (Err Order) (Ok row)

-- the row of a line that follows a row, or why the line is wrong
abbrev pub row_after : Option Row → List ℕ → Result Row WrongLine
row_after before line = cond (nat_lt 1024 (length line)) (Err Form) (placed before (row_in line))

abbrev pub cons_row : Row → Result (List Row) (ℕ × WrongLine) → Result (List Row) (ℕ × WrongLine)
cons_row row (Ok rows) = Ok (row ∷ rows)
cons_row row (Err wrong) = Err wrong

-- the rows of these lines, which follow a row, or the number of the first wrong line, and why it is
-- wrong. The first of the lines has this number
abbrev pub rows_from : ℕ → Option Row → List (List ℕ) → Result (List Row) (ℕ × WrongLine)
rows_from number before [] = Ok []
rows_from number before (line ∷ lines) =
    carry (λ row. cons_row row (rows_from (number + 1) (Some row) lines)) (λ why. (number, why)) (row_after before line)

abbrev pub rows_after_head : List (List ℕ) → Result (List Row) (ℕ × WrongLine)
rows_after_head [] = Err (1, Form)
rows_after_head (line ∷ lines) = cond (bytes_eq line head_text) (rows_from 2 None lines) (Err (1, Form))

-- THE meaning of a settled ledger: the rows of its text, in the order of their keys, after the
-- header line; or the number of its first wrong line, and why that is wrong
abbrev pub rows_of : List ℕ → Result (List Row) (ℕ × WrongLine)
rows_of text = rows_after_head (lines_of text)
