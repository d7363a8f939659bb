-- What is posted of an upload: the runs of its batches, one for each shard that has a tap, in an
-- order that is fixed.
use Rattle.histories.specs.{Entry.IsEntryOf, declared.entry.Entry.Entry}
use Rattle.std.specs.{List.flat_map, List.AllZip, Prelude.◌≡◌, Prelude.◌⊎◌, Prelude.ℕ}
use Rattle.std.specs.Prelude.{zero, suc, ◌<◌, ◌==◌, List, [], ◌∷◌, ◌++◌, length, map, filter, take}
use Rattle.tap_views.specs.{Layout.Tap, Shards.run_of}

-- taps of one shard that one turn posts
pub record PostedRun : Type 0 where
  pub shard : ℕ
  pub taps : List Tap

-- a run of this shard, with these taps
abbrev pub posted_run : ℕ → List Tap → PostedRun
posted_run shard taps = record { shard = shard; taps = taps }

-- the run of these taps, if there is one
abbrev pub if_any : ℕ → List Tap → List PostedRun
if_any shard [] = []
if_any shard (tap ∷ taps) = posted_run shard (tap ∷ taps) ∷ []

-- the runs of a batch for the first shards, by increasing shard
abbrev pub runs_below : ℕ → ℕ → List Tap → List PostedRun
runs_below shards zero taps = []
runs_below shards (suc shard) taps =
    runs_below shards shard taps ++ if_any shard (run_of shard shards taps)

-- the runs of some batches, batch by batch
abbrev pub runs_of : ℕ → List (List Tap) → List PostedRun
runs_of shards [] = []
runs_of shards (batch ∷ batches) = runs_below shards shards batch ++ runs_of shards batches

-- a visit that a worker made to a shard: the taps that it posted, and an entry for each
pub record RunVisit : Type 0 where
  pub shard : ℕ
  pub taps : List Tap
  pub entries : List Entry

-- the visit is to one of the shards, and has the fields of its taps' bytes, tap by tap
pub record IsEntered (shards : ℕ) (visit : RunVisit) : Type 0 where
  pub within : visit.shard < shards
  pub fields : AllZip IsEntryOf visit.taps visit.entries

-- the run that a visit posted
abbrev pub run_of_visit : RunVisit → PostedRun
run_of_visit visit = posted_run visit.shard visit.taps

-- the runs were posted whole, in their order
abbrev pub ArePostedWhole : List PostedRun → List RunVisit → Type 0
ArePostedWhole runs visits = map run_of_visit visits ≡ runs

-- the runs were posted up to a cut one: of it nothing was posted, or its first taps and not all
pub record AreCut (runs : List PostedRun) (visits : List RunVisit) : Type 0 where
  pub before : List PostedRun
  pub cut : PostedRun
  pub after : List PostedRun
  pub all : runs ≡ before ++ cut ∷ after
  pub some_tap : 0 < length cut.taps
  pub made : (map run_of_visit visits ≡ before)
      ⊎ ((posted : ℕ) × (posted < length cut.taps)
      × (map run_of_visit visits ≡ before ++ posted_run cut.shard (take posted cut.taps) ∷ []))

-- the entries of the visits to a shard, visit by visit
abbrev pub entries_to : ℕ → List RunVisit → List (List Entry)
entries_to shard visits =
    map (λ visit. visit.entries) (filter (λ visit. visit.shard == shard) visits)

-- the entries of the visits, visit by visit
abbrev pub entries_of : List RunVisit → List Entry
entries_of visits = flat_map (λ visit. visit.entries) visits

-- how many taps the visits posted
abbrev pub taps_posted : List RunVisit → ℕ
taps_posted visits = length (entries_of visits)
