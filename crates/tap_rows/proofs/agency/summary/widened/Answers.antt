use Rattle.std.proofs.Common.{Some, subst}
use Rattle.tap_views.specs.Facts.{IsSpan}
use Rattle.tap_rows.proofs.AgencyLemmas.{wider}
use Rattle.tap_rows.proofs.agency.summary.widened.Goals as goal

pub returns-in-Some : goal.returns-in-Some
returns-in-Some c = λ moments is.
    wider moments c.args.moment (Some c.in-Some.span) _ (subst (IsSpan moments) c.in-Some.is is)
    (c.min.ensures, c.max.ensures)
