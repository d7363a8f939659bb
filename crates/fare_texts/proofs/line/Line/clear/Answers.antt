use Rattle.std.proofs.{Common.arith, lemmas.List.drop_all}
use Rattle.fare_texts.proofs.line.Line.clear.Goals as goal

pub returns : goal.returns
returns c = drop_all 384 c.self.inside.bytes (omega arith)
