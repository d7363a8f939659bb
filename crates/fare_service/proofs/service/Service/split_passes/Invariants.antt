use Rattle.std.proofs.Common.{◌≡◌, ◌≤◌, length, map, take, vec_capacity}
use Rattle.shared_books.specs.Passes.{fresh_pass}
use Rattle.fare_service.specs.Shares.{books_of}
use Rattle.fare_service.proofs.ClaimLemmas.{left_until}
use Rattle.fare_service.proofs.service.Service.split_passes.Given as goal

abbrev pub invariant-loop-shard : goal.invariant-loop-shard
invariant-loop-shard g l = record {
  old : l.old.items ≡ left_until l.shard l.fn.old.items;
  books : books_of l.old.items ≡ l.fn.self.books;
  new : l.new.items ≡ map fresh_pass (take l.shard l.fn.old.items);
  room : length l.fn.self.books ≤ vec_capacity l.new;
  within : l.shard ≤ l.shard-end;
  end : l.shard-end ≡ length l.fn.self.books;
}
