use Rattle.std.proofs.Common.{◌∙◌}
use Rattle.tap_views.proofs.Numbers.{number_read}
use Rattle.tap_views.proofs.view.TapView.moment_ms.Goals as goal

pub returns-clause-number : goal.returns-clause-number
returns-clause-number c =
    rw (← c.self.view_is) (c.read_u64.ensures
    ∙ number_read 8 c.self.inside.moment.now c.self.invariant.moment)

pub returns-clause-early : goal.returns-clause-early
returns-clause-early c = rw (c.read_u64.ensures
    ∙ number_read 8 c.self.inside.moment.now c.self.invariant.moment) c.self.invariant.early
