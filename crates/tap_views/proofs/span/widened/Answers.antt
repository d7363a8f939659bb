use Rattle.std.proofs.Common.{subst}
use Rattle.tap_views.specs.Facts.{IsSpan}
use Rattle.tap_views.proofs.Spans.{one_moment, more_moments}
use Rattle.tap_views.proofs.span.widened.Goals as goal

pub returns-in-None : goal.returns-in-None
returns-in-None c = λ moments is. one_moment c.args.moment moments
    (subst (IsSpan moments) c.in-None.is is)

pub returns-in-Some : goal.returns-in-Some
returns-in-Some c = λ moments is.
    more_moments moments c.args.moment c.in-Some.span.first c.in-Some.span.last
    (subst (IsSpan moments) c.in-Some.is is) c.min.result c.max.result c.min.ensures
    c.max.ensures
