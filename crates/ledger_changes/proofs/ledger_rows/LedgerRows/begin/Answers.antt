use Rattle.std.proofs.Common.{◌≡◌, refl, rules, subst, sym, arith}
use Rattle.fare_texts.specs.LedgerLines.{head_text}
use Rattle.ledger_changes.proofs.Readings.{head_is, head_long, head_other}
use Rattle.ledger_changes.specs.{Given.Said, inside.Readings.IsWrongAs}
use Rattle.recorded_lines.specs.Texts.{calls_of, left}
use Rattle.std.proofs.lemmas.Grind.{common_steps}
use Rattle.ledger_changes.proofs.ledger_rows.LedgerRows.begin.Goals as goal

pub returns-in-Ok-Long-clause-wrong : goal.returns-in-Ok-Long-clause-wrong
returns-in-Ok-Long-clause-wrong c = λ whole can.
    let (long, lines, shown, far) =
    rw c.in-Ok-Long.field-0-is at (c.in-Ok-Long.ensures.next whole can) in
    (refl, head_long (left c.args.self.now.from whole) long lines shown far)

pub returns-in-Ok-End-clause-wrong : goal.returns-in-Ok-End-clause-wrong
returns-in-Ok-End-clause-wrong c = λ whole can.
    let (none, gone) = rw c.in-Ok-End.field-0-is at (c.in-Ok-End.ensures.next whole can) in
    (refl, rw none)

pub returns-then-ne-clause-wrong : goal.returns-then-ne-clause-wrong
returns-then-ne-clause-wrong c = λ whole can.
    let (shown, short) = rw c.in-Ok-Whole.field-0-is at (c.in-Ok-Whole.ensures.next whole can) in
    let other : c.read_line.new.line.items ≡ head_text → ⊥ =
    first_of (search rules, grind (arith, common_steps)) in
    (refl, head_other (left c.args.self.now.from whole) c.read_line.new.line.items _ shown other)

pub returns-in-Err-clause-wrong : goal.returns-in-Err-clause-wrong
returns-in-Err-clause-wrong c = λ whole can.
    let mid = c.read_row.ensures.follows.back whole can in
    let (shown, short) = rw c.in-Ok-Whole.field-0-is at (c.in-Ok-Whole.ensures.next whole mid) in
    let same : c.read_line.new.line.items ≡ head_text =
    first_of (search rules, grind (arith, common_steps)) in
    subst (λ (s : Said). IsWrongAs c.args.self.now.bill (calls_of c.read_row.new.from) s c.in-Err.fault)
    (sym (head_is (left c.args.self.now.from whole) c.read_line.new.line.items
    (left c.read_line.new.self whole) shown same)) (c.in-Err.ensures.read whole can)
