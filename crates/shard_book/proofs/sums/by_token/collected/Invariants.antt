use Rattle.std.proofs.Common.{map, take}
use Rattle.histories.specs.Counts.{token_counts}
use Rattle.shard_book.specs.{Book.all_entries, inside.Counting.AreSummed, inside.Counting.AreBelow}
use Rattle.shard_book.proofs.sums.by_token.collected.Given as goal

abbrev pub invariant-loop-book : goal.invariant-loop-book
invariant-loop-book l =
    AreSummed (all_entries (take l.book-index l.books)) (map token_counts l.list.items)
    × AreBelow l.shards l.lowest (all_entries (take l.book-index l.books))
