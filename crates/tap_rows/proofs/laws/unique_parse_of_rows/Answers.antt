use Rattle.tap_rows.proofs.UniqueParse.{one_way}
use Rattle.tap_rows.proofs.laws.unique_parse_of_rows.Goals as goal

pub returns : goal.returns
returns c = one_way
