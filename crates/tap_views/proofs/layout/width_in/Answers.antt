use Rattle.std.proofs.Common.{refl}
use Rattle.tap_views.proofs.layout.width_in.Goals as goal

pub returns-then-is_tap2 : goal.returns-then-is_tap2
returns-then-is_tap2 c = rw (← c.is_tap2.ensures, c.if-is_tap2.true) refl
