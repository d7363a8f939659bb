use Rattle.std.proofs.Common.{rules, below_more}
use Rattle.tap_views.proofs.batch.first_late.Goals as goal

pub loop-i-preserved : goal.loop-i-preserved
loop-i-preserved c = below_more _ _ c.loop-i.invariant (search rules)
