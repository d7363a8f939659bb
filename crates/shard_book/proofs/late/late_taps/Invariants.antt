use Rattle.std.proofs.Common.{◌≡◌, take}
use Rattle.shard_book.specs.{Book.all_entries, Late.late_taps}
use Rattle.shard_book.specs.inside.Late.{AreLeft, AreStale}
use Rattle.shard_book.proofs.late.late_taps.Given as goal

abbrev pub invariant-loop-book : goal.invariant-loop-book
invariant-loop-book l = AreStale (all_entries (take l.book-index l.books)) l.keys.keys

abbrev pub invariant-loop-counted : goal.invariant-loop-counted
invariant-loop-counted l =
    AreLeft (all_entries l.books) (all_entries (take l.counted-index l.books)) l.keys.keys
    × (l.count ≡ late_taps (all_entries (take l.counted-index l.books)))
