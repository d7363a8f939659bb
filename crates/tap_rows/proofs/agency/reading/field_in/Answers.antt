use Rattle.csv.specs.Records.{fields_of}
use Rattle.tap_rows.proofs.AgencyRowLemmas.{none_there}
use Rattle.tap_rows.proofs.agency.reading.field_in.Goals as goal

pub returns-in-None-clause-there : goal.returns-in-None-clause-there
returns-in-None-clause-there c = λ within. absurd
    (none_there (fields_of c.args.row.now) c.args.position c.get.result c.get.ensures.value
    c.in-None.is within)
