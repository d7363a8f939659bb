use Rattle.std.proofs.{Common.◌≤◌, lemmas.List.Elements.All-replicate}
use Rattle.fare_table.proofs.read.classes.equal_fares.Goals as goal

pub returns-clause-bounds : goal.returns-clause-bounds
returns-clause-bounds c = All-replicate (λ one. one ≤ 100_000) 32 c.args.fare c.requires
