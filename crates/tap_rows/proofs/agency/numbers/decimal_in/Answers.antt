use Rattle.std.proofs.Common.{arith}
use Rattle.tap_rows.proofs.NumberLemmas.{big_decimal, no_decimal}
use Rattle.tap_rows.proofs.agency.numbers.decimal_in.Goals as goal

pub returns-in_default-clause-decimal : goal.returns-in_default-clause-decimal
returns-in_default-clause-decimal c =
    no_decimal c.args.text.now
    (λ number small is. c.in_default.ensures number (omega (arith, small)) is)

pub returns-else-number-lt-DECIMAL_LIMIT-clause-decimal :
    goal.returns-else-number-lt-DECIMAL_LIMIT-clause-decimal
returns-else-number-lt-DECIMAL_LIMIT-clause-decimal c =
    big_decimal c.args.text.now c.in-Some.number c.in-Some.ensures
    (omega (arith, c.if-number-lt-DECIMAL_LIMIT.false))
