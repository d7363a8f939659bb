use Rattle.std.proofs.Common.{sym}
use Rattle.tap_views.proofs.Cuts.{length-cut}
use Rattle.tap_views.specs.{Faults.width, inside.Records.layout_of, inside.Records.tap_at}
use Rattle.tap_views.proofs.batch.Batch.len.Goals as goal

pub returns-clause-number : goal.returns-clause-number
returns-clause-number c = let layout = layout_of c.self.inside.shared in
    rw (← c.self.view_is)
    (sym (length-cut (width layout) (tap_at layout) c.self.inside.count c.self.inside.records.now))
