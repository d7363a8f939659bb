use Rattle.shared_books.proofs.Reached.{reached}
use Rattle.shared_books.proofs.laws.steps_are_events.Goals as goal

pub returns : goal.returns
returns c = reached
