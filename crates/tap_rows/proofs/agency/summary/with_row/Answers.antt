use Rattle.std.proofs.Common.{refl}
use Rattle.tap_rows.specs.declared.agency.reading.Reading.TheVariants as read
use Rattle.tap_rows.proofs.AgencyLemmas.{summary_of}
use Rattle.tap_rows.proofs.agency.summary.with_row.Goals as goal

pub returns-in-Tap : goal.returns-in-Tap
returns-in-Tap c = λ rows row readings position same is.
    summary_of rows readings row c.args.reading.now (read.Tap _) c.args.number c.args.summary _
    c.in-Tap.is position same is (refl, refl, refl, refl, c.widened-more.ensures)

pub returns-in-LeftOut : goal.returns-in-LeftOut
returns-in-LeftOut c = λ rows row readings position same is.
    summary_of rows readings row c.args.reading.now read.LeftOut c.args.number c.args.summary _
    c.in-LeftOut.is position same is (refl, refl, refl, refl, refl)

pub returns-in-Refused : goal.returns-in-Refused
returns-in-Refused c = λ rows row readings position same is.
    summary_of rows readings row c.args.reading.now (read.Refused _) c.args.number c.args.summary _
    c.in-Refused.is position same is
    (refl, refl, refl, c.first_of-more.ensures.none, c.first_of-more.ensures.some, refl)
