use Rattle.std.proofs.Common.{◌∙◌, Some, ap, refl, sym}
use Rattle.ledger_fields.specs.Lines.{row_in as row_of_line}
use Rattle.ledger_changes.proofs.ledger_rows.read_row.Goals as goal

pub returns-in-Ok-Long-clause-read : goal.returns-in-Ok-Long-clause-read
returns-in-Ok-Long-clause-read c = λ whole can.
    let (long, lines, shown, far) =
    rw c.in-Ok-Long.field-0-is at (c.in-Ok-Long.ensures.next whole can) in
    (refl, rw (shown, far))

pub returns-in-Ok-End-clause-read : goal.returns-in-Ok-End-clause-read
returns-in-Ok-End-clause-read c = λ whole can.
    let (none, gone) = rw c.in-Ok-End.field-0-is at (c.in-Ok-End.ensures.next whole can) in
    rw none

pub returns-in_default-clause-read : goal.returns-in_default-clause-read
returns-in_default-clause-read c = λ whole can.
    let (shown, short) = rw c.in-Ok-Whole.field-0-is at (c.in-Ok-Whole.ensures.next whole can) in (
      refl,
      rw (shown, short, ap row_of_line (sym c.deref.ensures.value) ∙ c.in_default.ensures),
    )

pub returns-then-does_decrease-clause-read : goal.returns-then-does_decrease-clause-read
returns-then-does_decrease-clause-read c = λ whole can.
    let (shown, short) = rw c.in-Ok-Whole.field-0-is at (c.in-Ok-Whole.ensures.next whole can) in (
      refl,
      rw (
        shown,
        short,
        ap row_of_line (sym c.deref.ensures.value) ∙ c.in-Some.ensures
            ∙ ap Some (sym c.in_ok-row.ensures),
        sym c.does_decrease.ensures ∙ c.if-does_decrease.true,
      ),
    )

pub returns-clause-read : goal.returns-clause-read
returns-clause-read c = λ whole can.
    let (shown, short) = rw c.in-Ok-Whole.field-0-is at (c.in-Ok-Whole.ensures.next whole can) in
    rw (
      shown,
      short,
      ap row_of_line (sym c.deref.ensures.value) ∙ c.in-Some.ensures
          ∙ ap Some (sym c.in_ok-row.ensures),
      sym c.does_decrease.ensures ∙ c.if-does_decrease.false,
    )
