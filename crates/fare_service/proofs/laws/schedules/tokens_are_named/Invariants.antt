use Rattle.std.proofs.Common.{◌≡◌, ℕ, ◌<◌, All, Some, slice_get}
use Rattle.shard_book.specs.Book.{AreOfShard, Book}
use Rattle.histories.specs.Plain.{IsNamed}
use Rattle.fare_service.proofs.laws.schedules.tokens_are_named.Given as goal

abbrev pub invariant-loop-shard : goal.invariant-loop-shard
invariant-loop-shard l = record {
  named : (shard : ℕ) (book : Book) → shard < l.shard → slice_get l.outcome.books shard ≡ Some book
      → All IsNamed book.entries;
  here : (shard : ℕ) (book : Book) → shard < l.shard → slice_get l.outcome.books shard ≡ Some book
      → AreOfShard book.shard book.shards book.entries;
}
