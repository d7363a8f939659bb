use Rattle.std.proofs.Common.{arith}
use Rattle.csv.specs.Records.{fields_of}
use Rattle.tap_rows.proofs.AgencyRowLemmas.{column_found}
use Rattle.tap_rows.proofs.agency.positions.position_of.Goals as goal

pub returns : goal.returns
returns c = column_found (fields_of c.args.head.now) c.args.name.now c.loop-position.position
    c.loop-position.found (omega arith) c.loop-position.invariant
