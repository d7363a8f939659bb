use Rattle.std.proofs.Common.{refl}
use Rattle.tap_views.proofs.batch.Batch.run_of.Goals as goal

pub invariant_of-result : goal.invariant_of-result
invariant_of-result c = (c.self.invariant, c.requires.below, c.requires.most, tt)

pub returns : goal.returns
returns c = rw (← c.self.view_is) refl
