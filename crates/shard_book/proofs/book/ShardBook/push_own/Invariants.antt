use Rattle.std.proofs.Common.{◌≡◌, ◌++◌, take}
use Rattle.histories.specs.Entry.{own}
use Rattle.shard_book.proofs.book.ShardBook.push_own.Given as goal

abbrev pub invariant-loop-i : goal.invariant-loop-i
invariant-loop-i l = l.list.items ≡ l.fn.list.items ++ own l.token (take l.i l.self.entries)
