use Rattle.tap_views.proofs.Reading.{is_read_as}
use Rattle.tap_views.proofs.upload.valid_batches.Goals as goal

pub returns : goal.returns
returns c = is_read_as c.args.upload.now
