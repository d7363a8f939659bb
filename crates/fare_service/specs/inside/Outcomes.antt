-- Outcomes: what private functions alone cite.
use Rattle.fare_service.specs.Outcomes.{OutcomeView}
use Rattle.histories.specs.Sums.{sums}
use Rattle.shard_book.specs.Book.{Book, all_entries}
use Rattle.std.specs.Prelude.{◌≡◌, ℕ, ◌<◌, ◌≤◌, length, Some, slice_get}

-- what always holds of an outcome
pub record IsOutcome (outcome : OutcomeView) : Type 0 where
  pub some_shard : 0 < length outcome.books
  pub few_shards : length outcome.books ≤ 64
  pub shards : (shard : ℕ) (book : Book) → slice_get outcome.books shard ≡ Some book
      → book.shards ≡ length outcome.books
  pub few_uploads : length outcome.ends ≤ 65535
  pub of_books : outcome.totals ≡ sums (all_entries outcome.books)
