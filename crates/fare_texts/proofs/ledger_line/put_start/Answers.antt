use Rattle.std.proofs.Common.{codes}
use Rattle.std.specs.Fmt.{decimal}
use Rattle.fare_texts.proofs.LinePuts.{start_shown}
use Rattle.fare_texts.proofs.ledger_line.put_start.Goals as goal

pub returns : goal.returns
returns c =
    let moment = c.put_moment.ensures.put in (
      moment.0,
      moment.1,
      start_shown c.args.line.now c.put.new.self c.put_short.new.self c.put-2.new.self
          c.put_moment.new.line c.put-3.new.self c.put_short-2.new.self c.put-4.new.self
          c.put-5.new.self (codes ",") (decimal c.args.entry.now.validator) moment.0
          (decimal c.args.number) c.args.digits.now
          c.put.ensures.put (rw c.from.ensures at c.put_short.ensures.put)
          c.put-2.ensures.put moment.2 c.put-3.ensures.put c.put_short-2.ensures.put
          c.put-4.ensures.put c.put-5.ensures.put,
    )
