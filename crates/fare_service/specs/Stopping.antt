-- When a worker stops: with no upload left to draw, or at one that was cut because memory ran out.
use Rattle.fare_service.specs.{Faults.visits_held, Outcomes.OutcomeView, Plain.WasNotCut}
use Rattle.fare_service.specs.{ServiceView.ServiceView, ShareView.ShareView}
use Rattle.fare_service.specs.Shares.{Worked, HasWorked}
use Rattle.shared_books.specs.Passes.{PassView, seen_by}
use Rattle.std.specs.Option.{option_to_list}
use Rattle.std.specs.Prelude.{◌≡◌, ◌⊎◌, ℕ, ◌+◌, ◌^◌, ◌≤◌, nat_lt, List, ◌++◌, length, All, Any}
use Rattle.std.specs.Prelude.{Bool, true, false, count_by, slice_get, Option, Some, MatchOption}
use Rattle.tap_views.specs.declared.upload_end.UploadEnd.{UploadEnd}
use Rattle.tap_views.specs.declared.upload_end.UploadEnd.TheVariants.{Cut, Undrawn}

-- the pass has seen as many visits as its shard takes
abbrev pub KnowsFull : PassView → Type 0
KnowsFull pass = 2 ^ 62 ≤ pass.book.first + length (seen_by pass)

-- some shard takes no more visits, as a pass to it knows
abbrev pub SomeFull : List PassView → Type 0
SomeFull passes = Any KnowsFull passes

-- the upload was cut
abbrev pub WasCut : UploadEnd → Type 0
WasCut (Cut taps) = Unit {0}
WasCut _ = ⊥

-- a worker goes on after an upload that was posted up to its end or its fault; after one that was
-- cut only if some shard is full
abbrev pub MayGoOn : List PassView → Worked → Type 0
MayGoOn passes w = WasNotCut w.end ⊎ SomeFull passes

-- A worker went on after these uploads, and stopped at one that was cut; or at none, since all
-- uploads are drawn.
pub record StoppedCleanly (service : ServiceView) (old new : ShareView) : Type 0 where
  pub before : List Worked
  pub last : Option Worked
  pub worked : HasWorked service old new (before ++ option_to_list last)
  pub went_on : All (MayGoOn new.passes) before
  pub stopped : MatchOption last (new.drawer.seen ≡ length service.uploads) (λ w. WasCut w.end)

-- if a share knows that some shard is full, the shares made 2^62 visits to one
abbrev pub FullIsMade : List ShareView → Type 0
FullIsMade shares =
    All (λ share. SomeFull share.passes → (shard : ℕ) × (2 ^ 62 ≤ visits_held shard shares)) shares

-- whether the upload was cut
abbrev pub is_cut : UploadEnd → Bool
is_cut (Cut taps) = true
is_cut _ = false

-- how many uploads were cut
abbrev pub cuts : OutcomeView → ℕ
cuts outcome = count_by is_cut outcome.ends

-- how many workers posted a tap
abbrev pub posting : OutcomeView → ℕ
posting outcome = count_by (λ sums. nat_lt 0 sums.taps) outcome.workers

-- How the workers of an outcome stopped. No more uploads were cut than there were workers, unless
-- taps and cuts together are 2^62 or more: so it is if some shard was full, since each visit to it
-- posted a tap or was cut. If an upload was left undrawn, at least as many were cut as workers
-- posted a tap.
pub record HaveStopped (workers : ℕ) (outcome : OutcomeView) : Type 0 where
  pub few_cut : (cuts outcome ≤ workers) ⊎ (2 ^ 62 ≤ outcome.totals.taps + cuts outcome)
  pub undrawn : (upload : ℕ) → slice_get outcome.ends upload ≡ Some Undrawn
      → posting outcome ≤ cuts outcome
