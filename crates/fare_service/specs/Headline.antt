-- THE HEADLINE: what the books, the ends and the totals of an outcome are, by what each worker did.
use Rattle.fare_service.specs.{Adding.AddUp, Lending.AreProvidedAs, Lending.origin_at}
use Rattle.fare_service.specs.{Outcomes.OutcomeView, Placing.OccurOnce, Runs.entries_to}
use Rattle.fare_service.specs.ServiceView.{ServiceView, shards_of}
use Rattle.fare_service.specs.{ShareView.ShareView, Shares.Worked, Shares.all_works}
use Rattle.fare_service.specs.Shares.{all_visits, IsWorkOf, KeepsWorks, file_at, loads_of}
use Rattle.histories.specs.{History.IsLegal, declared.entry.Entry.Entry}
use Rattle.shard_book.specs.{Book.EachBook, Windows.WindowsKeepLimits}
use Rattle.shared_books.specs.Drawing.{NoneTwice}
use Rattle.std.specs.List.{flat_map, AllZip}
use Rattle.std.specs.Prelude.{◌≡◌, ℕ, ◌<◌, ◌≤◌, ◌==◌, if◌then◌else◌, List, [], ◌∷◌, length, map}
use Rattle.std.specs.Prelude.{filter, All, slice_get, slice_index_or, Some}
use Rattle.tap_views.specs.declared.token.Token.{Token}
use Rattle.tap_views.specs.declared.upload_end.UploadEnd.{UploadEnd, TheVariants.Undrawn}
use Rattle.tariffs.specs.Fares.{Fares}
use Rattle.world.specs.Origins.{Origin, IsFrom, loads_from, with_loads}
use Rattle.world.specs.Run.{Load, Run, nothing_yet}

-- a visit to a shard's book, and the worker that made it
pub record Signed : Type 0 where
  pub worker : ℕ
  pub entries : List Entry

-- the visits that a worker made, in the order in which they are in the book
abbrev pub by_worker : ℕ → List Signed → List (List Entry)
by_worker worker visits = map (λ v. v.entries) (filter (λ v. v.worker == worker) visits)

-- The entries of a shard are one thread's: visits, one after another. Those that a worker made are
-- exactly its visits to the shard, each once, in its own order.
pub record IsOneThread (shard : ℕ) (works : List (List Worked)) (entries : List Entry)
    : Type 0 where
  pub visits : List Signed
  pub history : entries ≡ flat_map (λ v. v.entries) visits
  pub order : (worker : ℕ) → by_worker worker visits
      ≡ entries_to shard (all_visits (slice_index_or works worker []))

-- how an upload ended: as the worker that drew it says
abbrev pub end_of : ℕ → List Worked → UploadEnd
end_of upload [] = Undrawn
end_of upload (w ∷ works) = if w.upload == upload then w.end else end_of upload works

-- What an outcome of files is, under a table and with `shards` shards, by what each worker did. A
-- field marked `follows` says again, in the subject's words, what the named fields imply. No field
-- says why an upload was cut or left undrawn: see `HaveStopped` and `StoppedCleanly`.
pub record Headline (fares : Fares) (shards : ℕ) (files : List (List ℕ))
    (works : List (List Worked)) (outcome : OutcomeView) : Type 0 where
  -- Each worker posted of the uploads that it drew what their bytes call for, and no upload was
  -- drawn twice.
  pub worked : All (λ done. All (IsWorkOf shards files) done) works
  pub drawn_once : NoneTwice (map (λ w. w.upload) (all_works works))
  -- Each upload ended as the worker that drew it says. Those that nobody drew are the last ones.
  pub uploads : length outcome.ends ≡ length files
  pub ended : (upload : ℕ) (end : UploadEnd) → slice_get outcome.ends upload ≡ Some end
      → end ≡ end_of upload (all_works works)
  pub undrawn : (upload : ℕ) → slice_get outcome.ends upload ≡ Some Undrawn
      → All (λ w. w.upload < upload) (all_works works)
  -- Each shard has a book under the table,
  pub shards_are : length outcome.books ≡ shards
  pub books : EachBook (λ shard book. (book.table ≡ fares) × (book.shard ≡ shard)
      × (book.shards ≡ shards)) outcome.books
  -- whose history is one thread's, each worker's visits in its own order:
  pub one_thread : EachBook (λ shard book. IsOneThread shard works book.entries) outcome.books
  -- every posted tap is in it once (follows from `worked`, `drawn_once` and `one_thread`),
  pub occur_once : EachBook
      (λ shard book. OccurOnce shard shards (all_works works) book.entries) outcome.books
  -- and each answer and charge is the account rule's for the earlier taps of the token.
  pub legal : EachBook (λ shard book. IsLegal fares book.entries) outcome.books
  -- The totals equal the workers' sums, and the books' and the uploads'. Its fields `books` and
  -- `uploads` follow from `each`, `workers` and the fields above.
  pub totals : AddUp works outcome
  -- No window of any token exceeds its limits (follows from `legal`).
  pub limits : EachBook (λ shard book. (token : Token)
      → WindowsKeepLimits fares book.entries token) outcome.books

-- the headline, for what `workers` workers did
abbrev pub HasRun : Fares → ℕ → List (List ℕ) → ℕ → OutcomeView → Type 0
HasRun fares shards files workers outcome =
    (works : List (List Worked)) × (length works ≡ workers)
    × Headline fares shards files works outcome

-- the uploads that workers drew, worker by worker
abbrev pub drawn_by : List (List Worked) → List ℕ
drawn_by works = map (λ w. w.upload) (all_works works)

-- the loads by which an upload was lent with the bytes of its file
abbrev pub loads_at : List Origin → List (List ℕ) → ℕ → List Load
loads_at uploads files upload = loads_from (origin_at uploads upload) (file_at files upload)

-- Each of these uploads was lent from where it comes, with the bytes of its file. What was done is
-- their loads, one after another, and nothing else.
pub record AreLoaded (uploads : List Origin) (files : List (List ℕ)) (drawn : List ℕ) (run : Run)
    : Type 0 where
  pub from : All (λ upload. IsFrom (origin_at uploads upload) (file_at files upload)) drawn
  pub loads : run ≡ with_loads nothing_yet (flat_map (loads_at uploads files) drawn)

-- The headline of a run over uploads that were lent: of some files, which are those that memory
-- holds, if it holds them. Those that were drawn, none twice, were loaded with these very bytes, and
-- nothing else was. Each upload whose end is not `Undrawn` was drawn.
pub record HasRunOver (fares : Fares) (shards : ℕ) (uploads : List Origin)
    (workers : ℕ) (outcome : OutcomeView) : Type 0 where
  pub files : List (List ℕ)
  pub provided : AreProvidedAs uploads files
  pub run : HasRun fares shards files workers outcome
  pub loaded : AreLoaded uploads files (drawn_by run.0) outcome.run

-- the headline, for what the workers of these shares of a service did: each upload was lent with
-- the bytes of its file
pub record HasOutcome (service : ServiceView) (shares : List ShareView) (outcome : OutcomeView)
    : Type 0 where
  pub files : List (List ℕ)
  pub provided : AreProvidedAs service.uploads files
  pub works : List (List Worked)
  pub kept : AllZip (KeepsWorks service) shares works
  pub headline : Headline service.table (shards_of service) files works outcome
  pub loads : outcome.run ≡ with_loads nothing_yet (loads_of service.uploads (all_works works))

-- an upload that nobody drew: no share has seen it drawn. Uploads are drawn in their order, so
-- these are the last ones
abbrev pub AreUndrawnReported : List ShareView → OutcomeView → Type 0
AreUndrawnReported shares outcome =
    (upload : ℕ) → slice_get outcome.ends upload ≡ Some Undrawn
    → All (λ share. share.drawer.seen ≤ upload) shares
