use Rattle.std.proofs.Common.{◌≡◌, ◌+◌, ◌++◌, ℕ, length}
use Rattle.fare_service.specs.{Claims.claims_at, Shares.books_of, inside.Joining.AreJoinedAt}
use Rattle.std.specs.Vec.Iter.{into_iter_items, into_iter_len}
use Rattle.fare_service.proofs.service.gathering.join_passes.Given as goal

abbrev pub invariant-loop-pass : goal.invariant-loop-pass
invariant-loop-pass l = record {
  may : (goal.iterator-loop-pass).can_next l.pass-iterator;
  ends : (goal.iterator-loop-pass).is_finite l.pass-iterator;
  left : l.yielded ++ into_iter_items l.pass-iterator ≡ l.fn.other.items;
  left_len : into_iter_len l.pass-iterator ≡ length (into_iter_items l.pass-iterator);
  position : l.shard ≡ length l.yielded;
  books : books_of l.into.items ≡ l.books;
  claims : (shard : ℕ)
      → claims_at shard l.into.items ≡ claims_at shard l.fn.into.items + claims_at shard l.yielded;
  joined : (shard : ℕ) → AreJoinedAt shard l.fn.into.items l.yielded l.into.items;
}
