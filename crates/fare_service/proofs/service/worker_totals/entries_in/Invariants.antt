use Rattle.std.proofs.Common.{◌≡◌, ◌≤◌, ◌*◌, ◌^◌, length, take}
use Rattle.shard_book.specs.Book.{all_entries}
use Rattle.fare_service.proofs.service.worker_totals.entries_in.Given as goal

abbrev pub invariant-loop-book : goal.invariant-loop-book
invariant-loop-book l =
    (l.number ≡ length (all_entries (take l.book-index l.books)))
    × (l.number ≤ l.book-index * 2 ^ 64)
