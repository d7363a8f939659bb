-- What the next line of a ledger makes of its rows.
use Rattle.std.proofs.Common.{◌≡◌, ◌+◌, ℕ, Bool, true, false, cond, List, [], ◌∷◌, length, Option}
use Rattle.std.proofs.Common.{Some, None, Result, Ok, Err, refl, sym, ap, subst, ◌∙◌}
use Rattle.fare_texts.specs.LedgerLines.{head_text}
use Rattle.ledger_changes.proofs.Sorted.{AreNondecreasing, ascend_more}
use Rattle.ledger_changes.specs.Ledgers.{cons_row, does_decrease, placed, rows_after_head}
use Rattle.ledger_changes.specs.Ledgers.{rows_from, rows_of}
use Rattle.ledger_changes.specs.declared.fault.{Bill.Bill, CorrectionsFault.CorrectionsFault}
use Rattle.ledger_changes.specs.declared.fault.CorrectionsFault.TheVariants.{Line, Unread, NoMemory}
use Rattle.ledger_changes.specs.declared.fault.WrongLine.{WrongLine}
use Rattle.ledger_changes.specs.declared.fault.WrongLine.TheVariants.{Form, Order}
use Rattle.ledger_changes.specs.{declared.row.LedgerRow.LedgerRow, inside.Readings.IsWrongAs}
use Rattle.ledger_changes.specs.inside.{Readings.rows_with, Views.row_in as row_at, Views.row_of}
use Rattle.ledger_fields.specs.{Lines.row_in, Rows.Row}
use Rattle.line_folds.specs.Folds.{carry, lines_of}
use Rattle.std.proofs.lemmas.{Bool.false≢true, Slice.Eq.bytes_eq-Decides}
use Rattle.std.specs.{Prelude.is_some, Prelude.nat_lt, Prelude.not, Str.bytes_eq}
use Rattle.world.specs.Run.{Calls}

-- ---- one line
abbrev goes_on : ℕ → List (List ℕ) → Result Row WrongLine → Result (List Row) (ℕ × WrongLine)
goes_on number lines said =
    carry (λ row. cons_row row (rows_from (number + 1) (Some row) lines)) (λ why. (number, why))
    said

-- ---- the head line
other_bytes : (a b : List ℕ) (r : Bool) → bytes_eq a b ≡ r → (a ≡ b → ⊥) → r ≡ false
other_bytes a b false is other = refl
other_bytes a b true is other = absurd (other ((bytes_eq-Decides a b).0 is))

pub head_other : (text line : List ℕ) (lines : List (List ℕ)) → lines_of text ≡ line ∷ lines
    → (line ≡ head_text → ⊥) → rows_of text ≡ Err (1, Form)
head_other text line lines shown other =
    rw (shown, other_bytes line head_text (bytes_eq line head_text) refl other)

pub head_long : (text line : List ℕ) (lines : List (List ℕ)) → lines_of text ≡ line ∷ lines
    → nat_lt 1024 (length line) ≡ true → rows_of text ≡ Err (1, Form)
head_long text line lines shown long =
    head_other text line lines shown
    (λ is. false≢true (ap (λ (l : List ℕ). nat_lt 1024 (length l)) (sym is) ∙ long))

pub head_is : (text line rest : List ℕ) → lines_of text ≡ line ∷ lines_of rest → line ≡ head_text
    → rows_of text ≡ rows_from 2 None (lines_of rest)
head_is text line rest shown is = rw (shown, (bytes_eq-Decides line head_text).1 is)

-- a line that is wrong after a row
pub wrong_rows : (row : Option LedgerRow) (is_none : Bool) (bill : Bill) (calls : Calls)
    (number next : ℕ) (text : List ℕ) (fault : CorrectionsFault) → is_some row ≡ not is_none
    → is_none ≡ false → next ≡ number + 1
    → IsWrongAs bill calls (rows_from next (row_at row) (lines_of text)) fault
    → IsWrongAs bill calls (rows_with (row_at row) number text) fault
wrong_rows None is_none bill calls number next text fault is some on wrong =
    absurd (let e : false ≡ true = is ∙ ap not some in cc)
wrong_rows (Some row) is_none bill calls number next text fault is some on wrong =
    by fault (subst (λ n. IsWrongAs bill calls (rows_from n (Some (row_of row)) (lines_of text)) fault)
    on wrong)
  where
    by : (fault : CorrectionsFault)
        → IsWrongAs bill calls (rows_from (number + 1) (Some (row_of row)) (lines_of text)) fault
        → IsWrongAs bill calls (rows_with (Some (row_of row)) number text) fault
    by (Line which at why) (same, said) = (same, ap (cons_row (row_of row)) said)
    by (Unread which) unread = unread
    by NoMemory none = tt

-- ---- the rows of a ledger are in order
abbrev AreNondecreasingFrom : Option Row → List Row → Type 0
AreNondecreasingFrom None rows = AreNondecreasing rows
AreNondecreasingFrom (Some row) rows = AreNondecreasing (row ∷ rows)

ascend_from : (before : Option Row) (row : Row) (rows : List Row) → does_decrease before row ≡ false
    → AreNondecreasing (row ∷ rows)
    → AreNondecreasingFrom before (row ∷ rows)
ascend_from None row rows stays up = up
ascend_from (Some before) row rows stays up = ascend_more before row rows stays up

no_rows : (before : Option Row) → AreNondecreasingFrom before []
no_rows None = tt
no_rows (Some row) = (tt, tt)

wrong_is_right : {A E : Type 0} (e : E) (a : A) → Err e ≡ Ok a → ⊥
wrong_is_right e a is = cc

from_ascends : (number : ℕ) (before : Option Row) (lines : List (List ℕ)) (rows : List Row)
    → rows_from number before lines ≡ Ok rows → AreNondecreasingFrom before rows
from_ascends number before [] rows is =
    subst (AreNondecreasingFrom before) (let t : [] ≡ rows = cc in t) (no_rows before)
from_ascends number before (line ∷ lines) rows is =
    by_long (nat_lt 1024 (length line)) is
    (λ row more same. from_ascends (number + 1) (Some row) lines more same)
  where
    After : Type 0
    After = (row : Row) (more : List Row) → rows_from (number + 1) (Some row) lines ≡ Ok more
        → AreNondecreasing (row ∷ more)

    by_rest : (row : Row) (said : Result (List Row) (ℕ × WrongLine))
        → rows_from (number + 1) (Some row) lines ≡ said
        → does_decrease before row ≡ false → cons_row row said ≡ Ok rows → After
        → AreNondecreasingFrom before rows
    by_rest row (Err wrong) same stays is trailing = absurd (wrong_is_right wrong rows is)
    by_rest row (Ok more) same stays is trailing =
        subst (AreNondecreasingFrom before) (let t : row ∷ more ≡ rows = cc in t)
        (ascend_from before row more stays (trailing row more same))

    by_decrease : (row : Row) (b : Bool) → does_decrease before row ≡ b
        → goes_on number lines (cond b (Err Order) (Ok row)) ≡ Ok rows
        → After → AreNondecreasingFrom before rows
    by_decrease row true is_decrease is trailing = absurd (wrong_is_right (number, Order) rows is)
    by_decrease row false stays is trailing =
        by_rest row (rows_from (number + 1) (Some row) lines) refl stays is trailing

    by_row : (row : Option Row) → goes_on number lines (placed before row) ≡ Ok rows → After
        → AreNondecreasingFrom before rows
    by_row None is trailing = absurd (wrong_is_right (number, Form) rows is)
    by_row (Some row) is trailing = by_decrease row (does_decrease before row) refl is trailing

    by_long : (b : Bool)
        → goes_on number lines (cond b (Err Form) (placed before (row_in line))) ≡ Ok rows
        → After → AreNondecreasingFrom before rows
    by_long true is trailing = absurd (wrong_is_right (number, Form) rows is)
    by_long false is trailing = by_row (row_in line) is trailing

pub rows_ascend : (text : List ℕ) (rows : List Row) → rows_of text ≡ Ok rows → AreNondecreasing rows
rows_ascend text rows is = by_lines (lines_of text) is
  where
    by_head : (lines : List (List ℕ)) (b : Bool)
        → cond b (rows_from 2 None lines) (Err (1, Form)) ≡ Ok rows → AreNondecreasing rows
    by_head lines true is = from_ascends 2 None lines rows is
    by_head lines false is = absurd (wrong_is_right (1, Form) rows is)

    by_lines : (lines : List (List ℕ)) → rows_after_head lines ≡ Ok rows → AreNondecreasing rows
    by_lines [] is = absurd (wrong_is_right (1, Form) rows is)
    by_lines (line ∷ lines) is = by_head lines (bytes_eq line head_text) is
