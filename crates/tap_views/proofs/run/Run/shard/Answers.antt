use Rattle.std.proofs.Common.{refl}
use Rattle.tap_views.proofs.run.Run.shard.Goals as goal

pub returns-clause-value : goal.returns-clause-value
returns-clause-value c = rw (← c.self.view_is) refl

pub returns-clause-below : goal.returns-clause-below
returns-clause-below c = rw (← c.self.view_is) c.self.invariant.1
