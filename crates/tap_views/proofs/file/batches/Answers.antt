use Rattle.tap_views.proofs.Reading.{is_parse}
use Rattle.tap_views.proofs.file.batches.Goals as goal

pub returns : goal.returns
returns c = is_parse c.args.file.now
