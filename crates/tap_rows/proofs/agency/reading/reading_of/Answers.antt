use Rattle.std.proofs.Common.{◌∙◌, ap}
use Rattle.csv.specs.Records.{fields_of}
use Rattle.tap_rows.specs.AgencyRows.{reading_by}
use Rattle.tap_rows.proofs.AgencyRowLemmas.{layout_is}
use Rattle.tap_rows.proofs.agency.reading.reading_of.Goals as goal

pub returns-clause-reading : goal.returns-clause-reading
returns-clause-reading c = λ head are.
    c.reading_by.ensures.reading
    ∙ ap (λ layout. reading_by c.args.choice.now layout (fields_of c.args.row.now))
    (layout_is c.args.choice.now head c.args.positions.now are)
