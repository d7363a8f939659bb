use Rattle.std.proofs.Common.{◌∙◌, sym, take}
use Rattle.ledger_fields.specs.Fields.{fits}
use Rattle.ledger_fields.proofs.Fronts.{fits_plain, front_at}
use Rattle.ledger_fields.proofs.field.Field.sized.Goals as goal

pub returns-then-fits : goal.returns-then-fits
returns-then-fits c =
    let passes = sym c.fits.ensures ∙ c.if-fits.true in
    front_at (fits c.args.self) c.args.text.now c.args.size c.if-size-text.true
    (sym c.ends_column.ensures ∙ c.if-ends_column.true)
    (fits_plain c.args.self (take c.args.size c.args.text.now) c.requires passes) passes
