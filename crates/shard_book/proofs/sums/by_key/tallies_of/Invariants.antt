use Rattle.std.proofs.Common.{◌≤◌, ◌*◌, ◌^◌, length, take}
use Rattle.shard_book.specs.Book.{all_entries}
use Rattle.histories.specs.TalliesByKey.{AreByKey}
use Rattle.shard_book.proofs.sums.by_key.tallies_of.Given as goal

abbrev pub invariant-loop-book : goal.invariant-loop-book
invariant-loop-book g l =
    AreByKey g.K.PartialEq.eq g.K.SumKey.key_of (all_entries (take l.book-index l.books))
    l.tallies.entries × (length (all_entries (take l.book-index l.books)) ≤ l.book-index * 2 ^ 64)
