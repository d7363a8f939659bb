use Rattle.tap_views.proofs.Reading.{one_list_of_batches}
use Rattle.tap_views.proofs.laws.unique_parse.Goals as goal

pub returns : goal.returns
returns c = one_list_of_batches c.args.file.now
