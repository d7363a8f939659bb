use Rattle.std.proofs.{Common.arith, lemmas.Nat.div-mul-add, lemmas.Nat.mod-mul-add}
use Rattle.fare_service.proofs.spot.Spot.of.Goals as goal

pub returns-clause-book : goal.returns-clause-book
returns-clause-book c = mod-mul-add c.args.position 65536 c.args.book (omega arith)

pub returns-clause-position : goal.returns-clause-position
returns-clause-position c = div-mul-add c.args.position 65536 c.args.book (omega arith)
