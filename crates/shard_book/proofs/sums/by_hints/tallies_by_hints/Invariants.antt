use Rattle.std.proofs.Common.{◌≤◌, ◌*◌, ◌^◌, length, take}
use Rattle.histories.specs.TalliesByKey.{AreTallied}
use Rattle.shard_book.specs.Book.{all_entries}
use Rattle.shard_book.proofs.sums.by_hints.tallies_by_hints.Given as goal

abbrev pub invariant-loop-book : goal.invariant-loop-book
invariant-loop-book l =
    AreTallied (all_entries (take l.book-index l.books)) l.hinted
    × (length (all_entries (take l.book-index l.books)) ≤ l.book-index * 2 ^ 64)
