use Rattle.std.proofs.lemmas.List.{drop-replicate}
use Rattle.tap_rows.proofs.agency.key.with_zeros.Goals as goal

pub returns : goal.returns
returns c = simp drop-replicate (cc)
