-- ServiceView: what private functions alone cite.
use Rattle.std.specs.Prelude.{◌≡◌, ℕ, ◌<◌, ◌≤◌, List, length, Some, slice_get}
use Rattle.tariffs.specs.Fares.{Fares}
use Rattle.shared_books.specs.Passes.{SharedBookView}
use Rattle.fare_service.specs.ServiceView.{ServiceView, shards_of}

-- the book of a shard was opened with the table, and its visits are numbered from 0
pub record IsBookOf (table : Fares) (shard shards : ℕ) (book : SharedBookView) : Type 0 where
  pub from_zero : book.first ≡ 0
  pub its_table : book.table ≡ table
  pub its_shard : book.shard ≡ shard
  pub of_shards : book.shards ≡ shards

-- these are the books of the first shards
abbrev pub AreOpened : Fares → ℕ → List SharedBookView → Type 0
AreOpened table shards books =
    (shard : ℕ) (book : SharedBookView) → slice_get books shard ≡ Some book
    → IsBookOf table shard shards book

-- what always holds of a service
pub record IsService (service : ServiceView) : Type 0 where
  pub some_shard : 0 < shards_of service
  pub few_shards : shards_of service ≤ 64
  pub books : AreOpened service.table (shards_of service) service.books
  pub numbers : service.drawing.numbers ≡ length service.uploads
  pub few_uploads : length service.uploads ≤ 65535
