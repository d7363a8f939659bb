use Rattle.std.proofs.Common.{◌≡◌, ◌≤◌, ℕ, length, map, vec_capacity, slice_get, Some}
use Rattle.shared_books.specs.Passes.{SharedBookView, new_pass}
use Rattle.fare_service.specs.inside.ServiceView.{IsBookOf}
use Rattle.fare_service.proofs.service.shard_books.open_books.Given as goal

abbrev pub invariant-loop-shard : goal.invariant-loop-shard
invariant-loop-shard l = record {
  books : (shard : ℕ) (book : SharedBookView) → slice_get l.books.items shard ≡ Some book
      → IsBookOf l.fn.table shard l.fn.shards book;
  number : length l.books.items ≡ l.shard;
  number_too : length l.passes.items ≡ l.shard;
  passes : l.passes.items ≡ map new_pass l.books.items;
  room : l.fn.shards ≤ vec_capacity l.books;
  room_too : l.fn.shards ≤ vec_capacity l.passes;
  within : l.shard ≤ l.fn.shards;
}
