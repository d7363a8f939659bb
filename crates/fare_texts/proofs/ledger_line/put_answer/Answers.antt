use Rattle.std.proofs.Common.{arith}
use Rattle.fare_texts.proofs.LinePuts.{answer_short}
use Rattle.fare_texts.proofs.ledger_line.put_answer.Goals as goal

pub put-requires : goal.put-requires
put-requires c = grind (arith, answer_short c.args.answer, c.answer_name.ensures, c.requires)

pub returns-clause-short : goal.returns-clause-short
returns-clause-short c =
    grind (arith, answer_short c.args.answer, c.answer_name.ensures, c.put.ensures.long)
