use Rattle.std.proofs.lemmas.{Fmt.IsAscii-from_digits, Str.IsUtf8-from_ascii}
use Rattle.tap_rows.proofs.moment.number_of.Goals as goal

pub returns-in-Err : goal.returns-in-Err
returns-in-Err c = λ number small is. c.in-Err.ensures.cases.0
    (IsUtf8-from_ascii c.args.field.now (IsAscii-from_digits c.args.field.now is.digits.1))
