use Rattle.tap_views.proofs.Reading.{one_batch}
use Rattle.tap_views.proofs.laws.one_batch.Goals as goal

pub returns : goal.returns
returns c = one_batch c.args.bytes.now
