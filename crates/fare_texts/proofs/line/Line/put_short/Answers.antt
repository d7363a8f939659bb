use Rattle.std.proofs.Common.{◌≤◌, length, arith, length-drop}
use Rattle.std.proofs.lemmas.Fmt.{length-decimal-le}
use Rattle.std.specs.Fmt.{decimal}
use Rattle.fare_texts.proofs.line.Line.put_short.Goals as goal

pub write_digits-self-inside-requires : goal.write_digits-self-inside-requires
write_digits-self-inside-requires c =
    let short : length (decimal c.args.number) ≤ 20 =
    length-decimal-le 20 c.args.number (omega arith) (omega (arith, c.ranges.number.fits))
    c.ranges.number.fits in
    grind (arith, length-drop, short, c.self.view_is)

pub returns-clause-short : goal.returns-clause-short
returns-clause-short c =
    let short : length (decimal c.args.number) ≤ 20 =
    length-decimal-le 20 c.args.number (omega arith) (omega (arith, c.ranges.number.fits))
    c.ranges.number.fits in
    grind (arith, length-drop, short, c.self.view_is)
