use Rattle.std.proofs.Common.{◌≡◌, take}
use Rattle.histories.specs.{Sums.sums, Tally.sums_of_tally}
use Rattle.shard_book.proofs.book.ShardBook.totals.Given as goal

abbrev pub invariant-loop-i : goal.invariant-loop-i
invariant-loop-i l = sums_of_tally l.tally ≡ sums (take l.i l.self.entries)
