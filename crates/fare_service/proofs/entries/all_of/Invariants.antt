use Rattle.std.proofs.Common.{◌≡◌, take}
use Rattle.shard_book.specs.Book.{all_entries}
use Rattle.fare_service.specs.inside.Spots.{entries_at_spots}
use Rattle.fare_service.proofs.entries.all_of.Given as goal

abbrev pub invariant-loop-book : goal.invariant-loop-book
invariant-loop-book l =
    (l.index ≡ l.book-index)
    × (entries_at_spots l.books l.list.items ≡ all_entries (take l.book-index l.books))
