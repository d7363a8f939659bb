use Rattle.std.proofs.Common.{◌≡◌, take}
use Rattle.histories.specs.Entry.{own}
use Rattle.shard_book.specs.Book.{all_entries}
use Rattle.fare_service.proofs.entries.own_of.Given as goal

abbrev pub invariant-loop-book : goal.invariant-loop-book
invariant-loop-book l = l.list.items ≡ own l.token (all_entries (take l.book-index l.books))
