-- What a share keeps: the uploads that it drew, each with its end, the visits that it made for
-- them, and the totals of the replies.
use Rattle.fare_service.specs.{Claims.claims_of, Lending.origin_at, Runs.RunVisit, Runs.IsEntered}
use Rattle.fare_service.specs.Runs.{ArePostedWhole, AreCut, runs_of, entries_to, entries_of}
use Rattle.fare_service.specs.{Runs.taps_posted, ServiceView.ServiceView, ServiceView.shards_of}
use Rattle.fare_service.specs.{ShareView.ShareView, declared.service.share.Done.Done}
use Rattle.histories.specs.{Sums.Sums, Sums.sums, Sums.add_sums, declared.entry.Entry.Entry}
use Rattle.shared_books.specs.Passes.{SharedBookView, PassView}
use Rattle.shared_books.specs.declared.turns.rule.Mark.{Mark}
use Rattle.std.specs.{List.flat_map, Prelude.◌≡◌, Prelude.ℕ, Prelude.◌*◌, Prelude.◌^◌}
use Rattle.std.specs.Prelude.{◌<◌, ◌≤◌, List, [], ◌++◌, length, map, filter, All, slice_index_or}
use Rattle.tap_views.specs.Files.{IsFile, IsFaultAt}
use Rattle.tap_views.specs.{Layout.Tap, declared.upload_end.UploadEnd.UploadEnd}
use Rattle.tap_views.specs.declared.upload_end.UploadEnd.TheVariants.{Posted, Refused, Cut, Undrawn}
use Rattle.world.specs.Origins.{Origin, IsFrom, loads_from, with_loads}
use Rattle.world.specs.Run.{Load, nothing_yet}

-- the books that the passes belong to
abbrev pub books_of : List PassView → List SharedBookView
books_of passes = map (λ pass. pass.book) passes

-- the visits that a pass made, in the order of their numbers
abbrev pub made_visits : List Mark → List (List Entry)
made_visits marks = map (λ m. m.visit) (filter (λ m. m.mine) marks)

-- what the pass to a shard knows; nothing if there is no such shard
abbrev pub marks_at : ℕ → List PassView → List Mark
marks_at shard passes = slice_index_or (map (λ pass. pass.marks) passes) shard []

-- the visits that the pass to a shard made
abbrev pub made_visits_at : ℕ → List PassView → List (List Entry)
made_visits_at shard passes = made_visits (marks_at shard passes)

-- an upload that a share drew: the bytes with which it was lent, how it ended, and the visits that
-- were made for it
pub record Worked : Type 0 where
  pub upload : ℕ
  pub file : List ℕ
  pub end : UploadEnd
  pub visits : List RunVisit

-- the visits of all these uploads, upload by upload
abbrev pub all_visits : List Worked → List RunVisit
all_visits works = flat_map (λ w. w.visits) works

-- what all workers did
abbrev pub all_works : List (List Worked) → List Worked
all_works works = flat_map (λ done. done) works

-- the loads by which these uploads were lent, upload by upload
abbrev pub loads_of : List Origin → List Worked → List Load
loads_of uploads works = flat_map (λ w. loads_from (origin_at uploads w.upload) w.file) works

-- the upload and how it ended
abbrev pub done_of : Worked → Done
done_of w = record { upload = w.upload; end = w.end }

-- how an upload of these batches and this rest ended, by the visits that were made for it
abbrev pub IsEndOf : ℕ → List ℕ → List (List Tap) → List ℕ → List RunVisit → UploadEnd → Type 0
IsEndOf shards file batches rest visits (Posted taps) =
    (rest ≡ []) × ArePostedWhole (runs_of shards batches) visits × (taps ≡ taps_posted visits)
IsEndOf shards file batches rest visits (Refused taps offset fault) =
    IsFaultAt file rest offset fault × ArePostedWhole (runs_of shards batches) visits
    × (taps ≡ taps_posted visits)
IsEndOf shards file batches rest visits (Cut taps) =
    AreCut (runs_of shards batches) visits × (taps ≡ taps_posted visits)
IsEndOf shards file batches rest visits Undrawn = ⊥

-- the bytes of an upload
abbrev pub file_at : List (List ℕ) → ℕ → List ℕ
file_at files upload = slice_index_or files upload []

-- what was done with an upload of these files: its visits and its end are those of its bytes
pub record IsWorkOf (shards : ℕ) (files : List (List ℕ)) (w : Worked) : Type 0 where
  pub within : w.upload < length files
  pub provided : w.file ≡ file_at files w.upload
  pub batches : List (List Tap)
  pub rest : List ℕ
  pub is_file : IsFile (file_at files w.upload) batches rest
  pub ended : IsEndOf shards (file_at files w.upload) batches rest w.visits w.end
  pub entered : All (IsEntered shards) w.visits

-- what was done with an upload of a service: its visits and its end are those of the bytes with
-- which it was lent
pub record IsWorked (service : ServiceView) (w : Worked) : Type 0 where
  pub within : w.upload < length service.uploads
  pub from : IsFrom (origin_at service.uploads w.upload) w.file
  pub batches : List (List Tap)
  pub rest : List ℕ
  pub is_file : IsFile w.file batches rest
  pub ended : IsEndOf (shards_of service) w.file batches rest w.visits w.end
  pub entered : All (IsEntered (shards_of service)) w.visits

-- the share keeps what was done for these uploads, in the order in which it drew them, and lending
-- them did nothing but their loads
pub record KeepsWorks (service : ServiceView) (share : ShareView) (works : List Worked)
    : Type 0 where
  pub each : All (IsWorked service) works
  pub drawn : share.drawer.drawn ≡ map (λ w. w.upload) works
  pub done : share.done ≡ map done_of works
  pub visits : (shard : ℕ) → made_visits_at shard share.passes ≡ entries_to shard (all_visits works)
  pub totals : share.totals ≡ sums (entries_of (all_visits works))
  pub loads : share.run ≡ with_loads nothing_yet (loads_of service.uploads works)

-- the share belongs to the service, and keeps what was done for some uploads
pub record IsShareOf (service : ServiceView) (share : ShareView) : Type 0 where
  pub drawer : share.drawer.drawn_from ≡ service.drawing
  pub passes : books_of share.passes ≡ service.books
  pub works : List Worked
  pub keeps : KeepsWorks service share works
  pub room : share.totals.taps ≤ 2 ^ 60 * length works

-- nothing was done with the share yet
pub record IsFresh (share : ShareView) : Type 0 where
  pub drawn : share.drawer.drawn ≡ []
  pub done : share.done ≡ []
  pub visits : (shard : ℕ) → made_visits_at shard share.passes ≡ []
  pub totals : share.totals ≡ sums []
  pub run : share.run ≡ nothing_yet

-- what a worker's visits changed: the passes have made them and keep their claims, and the totals
-- count their replies
pub record HasVisited (shards : ℕ) (passes passes' : List PassView) (totals totals' : Sums)
    (more : List RunVisit) : Type 0 where
  pub books : books_of passes' ≡ books_of passes
  pub claims : claims_of passes' ≡ claims_of passes
  pub visits : (shard : ℕ)
      → made_visits_at shard passes' ≡ made_visits_at shard passes ++ entries_to shard more
  pub counted : totals' ≡ add_sums totals (sums (entries_of more))
  pub entered : All (IsEntered shards) more

-- the share drew these uploads more, by their loads, and did this for them, and keeps its claims
pub record HasWorked (service : ServiceView) (old new : ShareView) (more : List Worked)
    : Type 0 where
  pub each : All (IsWorked service) more
  pub claims : new.drawer.claims ≡ old.drawer.claims
  pub drawn : new.drawer.drawn ≡ old.drawer.drawn ++ map (λ w. w.upload) more
  pub done : new.done ≡ old.done ++ map done_of more
  pub made : HasVisited (shards_of service) old.passes new.passes old.totals new.totals
      (all_visits more)
  pub loads : new.run ≡ with_loads old.run (loads_of service.uploads more)

-- the share went on with some uploads
abbrev pub WentOn : ServiceView → ShareView → ShareView → Type 0
WentOn service old new = (more : List Worked) × HasWorked service old new more
