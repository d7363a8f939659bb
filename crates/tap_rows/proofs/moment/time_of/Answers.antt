use Rattle.tap_rows.proofs.MomentLemmas.{from_instant}
use Rattle.tap_rows.proofs.moment.time_of.Goals as goal

pub returns-then-has_utc_marks : goal.returns-then-has_utc_marks
returns-then-has_utc_marks c =
    from_instant c.args.field.now c.instant_of.result
    (c.has_utc_marks.ensures.0 c.if-has_utc_marks.true) c.instant_of.ensures
