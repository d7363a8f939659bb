use Rattle.std.proofs.Common.{refl}
use Rattle.tap_views.proofs.view.TapView.token.Goals as goal

pub returns-clause-bytes : goal.returns-clause-bytes
returns-clause-bytes c = rw (← c.self.view_is) refl

pub returns-clause-wide : goal.returns-clause-wide
returns-clause-wide c = c.self.invariant.token
