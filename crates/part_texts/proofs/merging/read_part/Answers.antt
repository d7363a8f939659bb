use Rattle.std.proofs.Common.{◌∙◌, ap, refl, sym}
use Rattle.line_folds.specs.Folds.{lines_of}
use Rattle.recorded_lines.proofs.Reading.{follows_self}
use Rattle.part_texts.specs.inside.Fronts.{fronts_view}
use Rattle.part_texts.specs.declared.fault.MergeFault.TheVariants.{NoMemory, Unread}
use Rattle.part_texts.proofs.Runs.{at_start, read_cut, read_long, read_more, read_over, read_short}
use Rattle.part_texts.proofs.Runs.{read_to, read_whole, read_wrong}
use Rattle.part_texts.proofs.merging.read_part.Goals as goal

pub loop-number-init : goal.loop-number-init
loop-number-init g c =
    at_start c.args.is_copied (fronts_view c.args.parts.now) c.args.from.now c.args.first
    (g.W.Inputs.run c.args.world.now)

pub returns-then-is_over : goal.returns-then-is_over
returns-then-is_over g c =
    read_over c.loop-number.invariant c.args.position (sym c.is_over.ensures ∙ c.if-is_over.true)

pub returns-in-None : goal.returns-in-None
returns-in-None g c =
    read_whole c.loop-number.invariant c.args.position c.read_line.ensures.follows
    (sym c.is_over.ensures ∙ c.if-is_over.false) (sym c.end.ensures ∙ c.in-None.is)
    (c.in-Ok-End.ensures.ended c.in-Ok-End.field-0-is)
    (λ whole can.
    let (none, gone) = rw c.in-Ok-End.field-0-is at (c.in-Ok-End.ensures.next whole can) in
    (ap lines_of none, ap lines_of gone))

pub returns-in-Some : goal.returns-in-Some
returns-in-Some g c =
    read_short c.loop-number.invariant c.args.position c.read_line.ensures.follows c.in-Some.why
    (sym c.is_over.ensures ∙ c.if-is_over.false) (sym c.end.ensures ∙ c.in-Some.is)
    (λ whole can.
    let (none, gone) = rw c.in-Ok-End.field-0-is at (c.in-Ok-End.ensures.next whole can) in
    (ap lines_of none, ap lines_of gone))

pub returns-in-Ok-Long : goal.returns-in-Ok-Long
returns-in-Ok-Long g c =
    read_long c.loop-number.invariant c.args.position c.read_line.ensures.follows
    (sym c.is_over.ensures ∙ c.if-is_over.false)
    (λ whole can. rw c.in-Ok-Long.field-0-is at (c.in-Ok-Long.ensures.next whole can))

pub returns-in-Err-Unread : goal.returns-in-Err-Unread
returns-in-Err-Unread g c =
    read_to c.loop-number.invariant c.args.position c.read_line.ensures.follows
    (Unread c.args.position) (λ r. refl)
    (λ whole can. (refl, c.in-Err-Unread.ensures.unread c.in-Err-Unread.field-0-is))

pub returns-in-Err-NoMemory : goal.returns-in-Err-NoMemory
returns-in-Err-NoMemory g c =
    read_to c.loop-number.invariant c.args.position c.read_line.ensures.follows NoMemory (λ r. refl)
    (λ whole can. tt)

pub returns-in-Err-Wrong : goal.returns-in-Err-Wrong
returns-in-Err-Wrong g c =
    read_wrong c.loop-number.invariant c.args.position c.read_line.ensures.follows
    (sym c.is_over.ensures ∙ c.if-is_over.false)
    (rw c.deref.ensures.value at (rw c.in-Err-Wrong.field-0-is at c.in-Err-Wrong.ensures))
    (λ whole can. rw c.in-Ok-Whole.field-0-is at (c.in-Ok-Whole.ensures.next whole can))
    c.in-Err-Wrong.why refl

pub returns-in-Err-NoMemory-take : goal.returns-in-Err-NoMemory-take
returns-in-Err-NoMemory-take g c =
    read_to c.loop-number.invariant c.args.position c.read_line.ensures.follows NoMemory (λ r. refl)
    (λ whole can. tt)

pub returns-in-Err : goal.returns-in-Err
returns-in-Err g c =
    read_cut c.loop-number.invariant c.args.position c.read_line.ensures.follows
    (sym c.is_over.ensures ∙ c.if-is_over.false) (rw c.deref.ensures.value at c.in-Ok.ensures)
    (λ whole can. rw c.in-Ok-Whole.field-0-is at (c.in-Ok-Whole.ensures.next whole can))
    c.in-Err.why (rw c.deref-in-loop-number.ensures.value at c.in-Err.ensures.cut)

pub loop-number-preserved : goal.loop-number-preserved
loop-number-preserved g c =
    read_more c.loop-number.invariant c.args.position c.read_line.ensures.follows
    (sym c.is_over.ensures ∙ c.if-is_over.false) (rw c.deref.ensures.value at c.in-Ok.ensures)
    (λ whole can. rw c.in-Ok-Whole.field-0-is at (c.in-Ok-Whole.ensures.next whole can)) refl
    (rw c.deref-in-loop-number.ensures.value at c.in-Ok-copy.ensures.whole)

pub returns : goal.returns
returns g c =
    read_to c.loop-number.invariant c.args.position (follows_self c.loop-number.from) NoMemory
    (λ r. refl) (λ whole can. tt)
