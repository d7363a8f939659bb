use Rattle.tap_views.proofs.batch.Batch.taps.Goals as goal

pub invariant_of-result : goal.invariant_of-result
invariant_of-result c = c.self.invariant

pub returns : goal.returns
returns c = c.self.view_is
