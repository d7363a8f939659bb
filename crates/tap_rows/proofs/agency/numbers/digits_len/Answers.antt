use Rattle.std.proofs.Common.{arith}
use Rattle.tap_rows.proofs.NumberLemmas.{digits_len_is}
use Rattle.tap_rows.proofs.agency.numbers.digits_len.Goals as goal

pub returns-then-not-is_ascii_digit-clause-digits :
    goal.returns-then-not-is_ascii_digit-clause-digits
returns-then-not-is_ascii_digit-clause-digits c =
    let test = c.loop-index-test.true in
    digits_len_is c.args.text.now c.loop-index.index (omega (arith, test)) c.loop-index.invariant
    (λ below. cc (c.is_ascii_digit.ensures.value, c.if-not-is_ascii_digit.true))

pub returns-clause-digits : goal.returns-clause-digits
returns-clause-digits c =
    let end = c.loop-index-test.false in
    digits_len_is c.args.text.now _ (omega arith)
    (λ k below. c.loop-index.invariant k (omega (arith, below, end)))
    (λ below. absurd (omega (arith, below)))
