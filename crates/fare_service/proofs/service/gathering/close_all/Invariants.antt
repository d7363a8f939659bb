use Rattle.std.proofs.Common.{◌≡◌, ◌≤◌, ◌++◌, List, length, vec_capacity}
use Rattle.fare_service.specs.{Shares.books_of, inside.Closing.AreClosed}
use Rattle.shared_books.specs.Passes.{PassView}
use Rattle.std.specs.Vec.Iter.{into_iter_items, into_iter_len}
use Rattle.fare_service.proofs.service.gathering.close_all.Given as goal

abbrev pub invariant-loop-book : goal.invariant-loop-book
invariant-loop-book l = record {
  may : (goal.iterator-loop-book).can_next l.book-iterator;
  ends : (goal.iterator-loop-book).is_finite l.book-iterator;
  left : l.yielded ++ into_iter_items l.book-iterator ≡ l.fn.books.items;
  left_len : into_iter_len l.book-iterator ≡ length (into_iter_items l.book-iterator);
  passes : (done : List PassView) × (done ++ into_iter_items l.passes ≡ l.fn.passes.items)
      × (books_of done ≡ l.yielded);
  passes_len : into_iter_len l.passes ≡ length (into_iter_items l.passes);
  shard : l.shard ≡ length l.yielded;
  number : length l.closed.items ≡ length l.yielded;
  room : length l.fn.books.items ≤ vec_capacity l.closed;
  closed : AreClosed l.fn.passes.items l.closed.items;
}
