use Rattle.std.proofs.{Common.◌≤◌, Common.arith, lemmas.List.Elements.All-replicate}
use Rattle.fare_table.proofs.read.classes.no_ceilings.Goals as goal

pub returns-clause-bounds : goal.returns-clause-bounds
returns-clause-bounds c = All-replicate (λ one. one ≤ 100_000_000) 3 100_000_000 (omega arith)
