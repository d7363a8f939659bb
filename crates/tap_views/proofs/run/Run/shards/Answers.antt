use Rattle.std.proofs.Common.{refl}
use Rattle.tap_views.proofs.run.Run.shards.Goals as goal

pub returns-clause-value : goal.returns-clause-value
returns-clause-value c = rw (← c.self.view_is) refl

pub returns-clause-most : goal.returns-clause-most
returns-clause-most c = c.self.invariant.2
