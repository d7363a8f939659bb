use Rattle.std.proofs.Common.{◌≡◌, ◌≤◌, ◌++◌, length, vec_capacity}
use Rattle.std.specs.Vec.Iter.{into_iter_items, into_iter_len}
use Rattle.fare_service.specs.inside.Closing.{AreUnseen}
use Rattle.fare_service.proofs.service.gathering.close_unseen.Given as goal

abbrev pub invariant-loop-book : goal.invariant-loop-book
invariant-loop-book l = record {
  may : (goal.iterator-loop-book).can_next l.book-iterator;
  ends : (goal.iterator-loop-book).is_finite l.book-iterator;
  left : l.yielded ++ into_iter_items l.book-iterator ≡ l.fn.books.items;
  left_len : into_iter_len l.book-iterator ≡ length (into_iter_items l.book-iterator);
  shard : l.shard ≡ length l.yielded;
  number : length l.closed.items ≡ length l.yielded;
  room : length l.fn.books.items ≤ vec_capacity l.closed;
  closed : AreUnseen l.fn.books.items l.closed.items;
}
