use Rattle.std.proofs.Common.{◌≡◌}
use Rattle.shard_book.proofs.book.ShardBook.prefetch.Given as goal

abbrev pub invariant-loop-position : goal.invariant-loop-position
invariant-loop-position l =
    (l.self ≡ l.initial.self) × (goal.iterator-loop-position).can_next l.ahead
    × (goal.iterator-loop-position).is_finite l.ahead
