use Rattle.tap_views.proofs.Deciding.{same_fault}
use Rattle.tap_views.proofs.laws.one_fault.Goals as goal

pub returns : goal.returns
returns c = same_fault c.args.bytes.now
