use Rattle.shard_book.specs.Book.{all_entries}
use Rattle.laws.specs.Written.{reported_entries}
use Rattle.laws.proofs.Books.{books_are_read}
use Rattle.laws.proofs.ledgers.printed_ledger_is_legal.Goals as goal

pub returns-clause-ledger : goal.returns-clause-ledger
returns-clause-ledger c = λ fares shards books only text each postable names few short written.
    books_are_read fares shards books only text each postable names few short written

pub returns-clause-legal : goal.returns-clause-legal
returns-clause-legal c =
    λ fares shards books only text verdict each postable names few short written is.
    (c.verdicts_decide.ensures fares text verdict is).1 (
      reported_entries only (all_entries books),
      books_are_read fares shards books only text each postable names few short written,
    )
