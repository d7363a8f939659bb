use Rattle.std.proofs.Common.{◌++◌, codes, refl}
use Rattle.fare_texts.proofs.LinePuts.{window_shown}
use Rattle.fare_texts.specs.LedgerLines.{ride_rest}
use Rattle.fare_texts.proofs.reason_fields.put_ride.Goals as goal

pub returns-clause-put : goal.returns-clause-put
returns-clause-put c =
    let to = c.put_moment.ensures.put in
    let from = c.put_moment-2.ensures.put in (
      from.0 ++ (codes "," ++ (to.0 ++ ride_rest c.args.table.now.meaning.cap_names c.args.charge)),
      record { from = from.0; starts = from.1; to = to.0; ends = to.1; shown = refl },
      window_shown c.args.line.now c.put_ride_rest.new.line c.put_moment.new.line c.put.new.self
          c.put_moment-2.new.line
          (ride_rest c.args.table.now.meaning.cap_names c.args.charge) to.0 from.0
          c.put_ride_rest.ensures.put to.2 c.put.ensures.put from.2,
    )
