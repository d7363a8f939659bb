use Rattle.std.proofs.Common.{◌≡◌, take}
use Rattle.shard_book.proofs.difference.first_difference.Given as goal

abbrev pub invariant-loop-i : goal.invariant-loop-i
invariant-loop-i l = take l.i l.book.entries ≡ take l.i l.list
