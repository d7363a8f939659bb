use Rattle.histories.proofs.Histories.{legal-front}
use Rattle.histories.proofs.laws.beginnings_are_legal.Goals as goal

pub returns : goal.returns
returns c = legal-front
