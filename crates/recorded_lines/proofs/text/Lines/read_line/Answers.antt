use Rattle.std.proofs.Common.{◌≡◌, ◌<◌, arith, false, inl, inr, length, true}
use Rattle.std.specs.Prelude.{nat_lt}
use Rattle.std.proofs.lemmas.Bool.Decides.{nat_tests}
use Rattle.recorded_lines.proofs.Reading.{at_line, follows_on, follows_same, line_more, line_on}
use Rattle.recorded_lines.proofs.Reading.{not_read, read_long, read_none_left, read_one}
use Rattle.recorded_lines.proofs.text.Lines.read_line.Goals as goal

pub loop-init : goal.loop-init
loop-init c = at_line c.args.self.now c.clear.new.self.items c.clear.ensures.items

pub returns-in_default : goal.returns-in_default
returns-in_default c =
    not_read _ _ _ _ (follows_same _ _ _ c.loop.invariant.follows c.take_line.ensures.stream)
    (λ is. absurd (cc))

pub returns-then-len-gt-MAX_LINE_BYTES : goal.returns-then-len-gt-MAX_LINE_BYTES
returns-then-len-gt-MAX_LINE_BYTES c =
    let long : nat_lt 1024 (length c.take_line.new.line.items) ≡ true = grind (arith, nat_tests) in
    read_long (line_more _ _ _ _ _ _ c.loop.invariant c.take_line.ensures.stream
    c.in-Ok.ensures.taken) long

pub returns-then-is_whole : goal.returns-then-is_whole
returns-then-is_whole c =
    let short : nat_lt 1024 (length c.take_line.new.line.items) ≡ false = grind (arith, nat_tests) in
    read_one (line_more _ _ _ _ _ _ c.loop.invariant c.take_line.ensures.stream
    c.in-Ok.ensures.taken) short (inl c.if-is_whole.true)

pub read_more-requires : goal.read_more-requires
read_more-requires c = c.in-Ok.ensures.taken.all c.if-is_whole.false

pub returns-then-is_empty : goal.returns-then-is_empty
returns-then-is_empty c =
    let none : length c.take_line.new.line.items ≡ 0 = grind (arith, nat_tests) in
    read_none_left (line_on (line_more _ _ _ _ _ _ c.loop.invariant c.take_line.ensures.stream
    c.in-Ok.ensures.taken) c.in-Ok-false.ensures)
    (c.in-Ok-false.ensures.ended c.in-Ok-false.field-0-test) none

pub returns-in-Ok-false : goal.returns-in-Ok-false
returns-in-Ok-false c =
    let some : 0 < length c.take_line.new.line.items = grind (arith, nat_tests) in
    let short : nat_lt 1024 (length c.take_line.new.line.items) ≡ false = grind (arith, nat_tests) in
    read_one (line_on (line_more _ _ _ _ _ _ c.loop.invariant c.take_line.ensures.stream
    c.in-Ok.ensures.taken) c.in-Ok-false.ensures) short
    (inr (some, c.in-Ok-false.ensures.ended c.in-Ok-false.field-0-test))

pub returns-in-Err : goal.returns-in-Err
returns-in-Err c =
    not_read _ _ _ _ (follows_on _ _ _
    (follows_same _ _ _ c.loop.invariant.follows c.take_line.ensures.stream)
    c.read_more.ensures.follows) c.in-Err.ensures.unread

pub loop-preserved : goal.loop-preserved
loop-preserved c =
    line_on (line_more _ _ _ _ _ _ c.loop.invariant c.take_line.ensures.stream
    (rw c.if-is_whole.false at c.in-Ok.ensures.taken)) c.in-Ok-true.ensures

pub returns : goal.returns
returns c = not_read _ _ _ _ c.loop.invariant.follows (λ is. absurd (cc))
