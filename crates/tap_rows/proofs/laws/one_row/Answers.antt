use Rattle.tap_rows.proofs.RowLemmas.{one_row, no_bad_row}
use Rattle.tap_rows.proofs.laws.one_row.Goals as goal

pub returns : goal.returns
returns c = record { tap = one_row; valid = no_bad_row }
