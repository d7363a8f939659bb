-- What was gathered, before the promises that follow from it: the form that lemmas use.
use Rattle.fare_service.specs.Headline.{Signed, by_worker, end_of}
use Rattle.fare_service.specs.{Outcomes.OutcomeView, Runs.entries_to, Runs.entries_of}
use Rattle.fare_service.specs.ServiceView.{ServiceView, shards_of}
use Rattle.fare_service.specs.Shares.{Worked, all_works, all_visits, IsWorkOf}
use Rattle.histories.specs.{History.IsLegal, Sums.sums}
use Rattle.shard_book.specs.Book.{Book}
use Rattle.shared_books.specs.{Drawing.NoneTwice, Marks.history_of_visits}
use Rattle.std.specs.Prelude.{ℕ, ◌≡◌, ◌<◌, List, length, map, All, slice_get, Some}
use Rattle.tap_views.specs.declared.upload_end.UploadEnd.{UploadEnd}
use Rattle.tariffs.specs.Fares.{Fares}

-- what a service was given: its table, how many shards there are, and the bytes with which the
-- uploads
-- were lent
pub record Given : Type 0 where
  pub table : Fares
  pub shards : ℕ
  pub uploads : List (List ℕ)

abbrev pub given_of : ServiceView → List (List ℕ) → Given
given_of service files = record
    { table = service.table; shards = shards_of service; uploads = files }

-- the book of a shard, by the visits of the workers
pub record IsBookOfWork (table : Fares) (shard shards : ℕ) (works : List (List Worked))
    (book : Book) : Type 0 where
  pub visits : List Signed
  pub history : book.entries ≡ history_of_visits (map (λ v. v.entries) visits)
  pub signed : All (λ v. v.worker < length works) visits
  pub order : (worker : ℕ) (done : List Worked) → slice_get works worker ≡ Some done
      → by_worker worker visits ≡ entries_to shard (all_visits done)
  pub its_table : book.table ≡ table
  pub its_shard : book.shard ≡ shard
  pub of_shards : book.shards ≡ shards
  pub legal : IsLegal table book.entries

-- the books, ends and totals, by what the workers did
pub record IsGathered (given : Given) (works : List (List Worked)) (outcome : OutcomeView) : Type
    0 where
  pub each : All (λ done. All (IsWorkOf given.shards given.uploads) done) works
  pub once : NoneTwice (map (λ w. w.upload) (all_works works))
  pub shards : length outcome.books ≡ given.shards
  pub books : (shard : ℕ) (book : Book) → slice_get outcome.books shard ≡ Some book
      → IsBookOfWork given.table shard given.shards works book
  pub uploads : length outcome.ends ≡ length given.uploads
  pub ends : (upload : ℕ) (end : UploadEnd) → slice_get outcome.ends upload ≡ Some end
      → end ≡ end_of upload (all_works works)
  pub workers : outcome.workers ≡ map (λ done. sums (entries_of (all_visits done))) works
