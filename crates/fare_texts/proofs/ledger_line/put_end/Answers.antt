use Rattle.std.proofs.Common.{codes}
use Rattle.std.specs.Fmt.{decimal}
use Rattle.fare_texts.specs.StatementText.{answer_text}
use Rattle.fare_texts.proofs.LinePuts.{end_shown}
use Rattle.fare_texts.proofs.ledger_line.put_end.Goals as goal

pub returns-clause-put : goal.returns-clause-put
returns-clause-put c =
    let fields = c.put_reason_fields.ensures.put in (
      fields.0,
      fields.1,
      end_shown c.args.line.now c.put.new.self c.put_reason_fields.new.line c.put-2.new.self
          c.put_short.new.self c.put-3.new.self c.put_answer.new.line c.put-4.new.self
          (codes "\n") fields.0 (codes ",") (decimal c.args.entry.now.cents)
          (answer_text c.args.entry.now.answer)
          c.requires c.put.ensures.put fields.2 c.put-2.ensures.put
          (rw c.from.ensures at c.put_short.ensures.put) c.put-3.ensures.put
          c.put_answer.ensures.put c.put-4.ensures.put,
    )
