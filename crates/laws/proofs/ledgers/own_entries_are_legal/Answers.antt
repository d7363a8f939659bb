use Rattle.laws.proofs.Owned.{own_is_legal}
use Rattle.laws.proofs.ledgers.own_entries_are_legal.Goals as goal

pub returns : goal.returns
returns c = λ fares history token legal. own_is_legal fares history token legal
