use Rattle.shared_books.proofs.Reached.{takes_are, gives_are}
use Rattle.shared_books.proofs.laws.takes_and_gives_are_events.Goals as goal

pub returns : goal.returns
returns c = record { takes = takes_are; gives = gives_are }
