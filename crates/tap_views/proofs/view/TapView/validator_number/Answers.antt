use Rattle.std.proofs.Common.{◌∙◌}
use Rattle.tap_views.proofs.Numbers.{number_read}
use Rattle.tap_views.proofs.view.TapView.validator_number.Goals as goal

pub returns : goal.returns
returns c = rw (← c.self.view_is) (c.read_u32.ensures
    ∙ number_read 4 c.self.inside.validator.now c.self.invariant.validator)
