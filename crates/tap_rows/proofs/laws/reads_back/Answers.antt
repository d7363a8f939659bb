use Rattle.tap_rows.proofs.WrittenLemmas.{table_back}
use Rattle.tap_rows.proofs.laws.reads_back.Goals as goal

pub returns : goal.returns
returns c = table_back
