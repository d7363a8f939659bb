-- Stopping: what private functions alone cite.
use Rattle.fare_service.specs.{ServiceView.ServiceView, ShareView.ShareView, Shares.made_visits_at}
use Rattle.fare_service.specs.{Shares.WentOn, Stopping.SomeFull, Stopping.StoppedCleanly}
use Rattle.fare_service.specs.declared.service.working.Stop.{Stop}
use Rattle.fare_service.specs.declared.service.working.Stop.TheVariants.{Memory, Full}
use Rattle.histories.specs.declared.entry.Entry.{Entry}
use Rattle.shared_books.specs.Passes.{PassView}
use Rattle.std.specs.Prelude.{◌≡◌, ◌⊎◌, ℕ, List, ◌++◌, ◌∷◌, [], Result, IsErrOf}

-- What was known of a full shard is still known. If a full shard stopped the work, it is known now.
abbrev pub ReportsFull : {A : Type 0} → Result A Stop → List PassView → List PassView → Type 0
ReportsFull answer old new = SomeFull old ⊎ IsErrOf answer Full → SomeFull new

-- if an allocation failure stopped a run, no full shard did: the passes are as they were, or a
-- visit to the shard was made
abbrev pub ReportsMemory : ℕ → Result (Unit {0}) Stop → List PassView → List PassView → Type 0
ReportsMemory shard answer old new =
    IsErrOf answer Memory → (new ≡ old)
    ⊎ ((visit : List Entry) × (made_visits_at shard new ≡ made_visits_at shard old ++ visit ∷ []))

-- What a worker gives back of its share: the share as it was, or what it did with it until it
-- stopped. It keeps the share's claims.
pub record WorkedOn (service : ServiceView) (old new : ShareView) : Type 0 where
  pub went_on : WentOn service old new
  pub stopped : (new ≡ old) ⊎ StoppedCleanly service old new
