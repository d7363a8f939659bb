-- Why a service does not open, run or gather.
use Rattle.fare_service.specs.{ShareView.ShareView, Shares.made_visits_at}
use Rattle.fare_service.specs.declared.faults.{GatherFault.GatherFault, OpenFault.OpenFault}
use Rattle.fare_service.specs.declared.faults.OpenFault.TheVariants.{Shards, Uploads, NoMemory}
use Rattle.fare_service.specs.declared.faults.RunFault.{RunFault}
use Rattle.std.specs.Prelude.{◌≡◌, ◌⊎◌, ℕ, ◌<◌, ◌≤◌, List, length, sum_by}
use Rattle.fare_service.specs.declared.faults.GatherFault.TheVariants as gather
use Rattle.fare_service.specs.declared.faults.RunFault.TheVariants as run

-- the number of shards is refused first, and then the number of uploads; memory is taken last
abbrev pub IsOpenFault : ℕ → ℕ → OpenFault → Type 0
IsOpenFault shards uploads Shards = (shards ≡ 0) ⊎ (64 < shards)
IsOpenFault shards uploads Uploads = (0 < shards) × (shards ≤ 64) × (65535 < uploads)
IsOpenFault shards uploads NoMemory = (0 < shards) × (shards ≤ 64) × (uploads ≤ 65535)

-- how many visits to a shard the shares hold
abbrev pub visits_held : ℕ → List ShareView → ℕ
visits_held shard shares = sum_by (λ share. length (made_visits_at shard share.passes)) shares

-- how many uploads the shares drew
abbrev pub uploads_held : List ShareView → ℕ
uploads_held shares = sum_by (λ share. length share.drawer.drawn) shares

-- What a fault of gathering reports: a shard to which the shares hold fewer visits than were made,
-- or that they hold fewer uploads than were drawn.
abbrev pub IsGatherFault : ℕ → List ShareView → GatherFault → Type 0
IsGatherFault shards shares gather.NoMemory = Unit {0}
IsGatherFault shards shares (gather.Missing shard held kept) =
    (shard < shards) × (held ≡ visits_held shard shares) × (held < kept)
IsGatherFault shards shares (gather.Drawn held drawn) = (held ≡ uploads_held shares)
    × (held < drawn)

-- a gathering that misses nothing is refused for memory alone
abbrev pub IsForMemory : GatherFault → Type 0
IsForMemory gather.NoMemory = Unit {0}
IsForMemory (gather.Missing shard held kept) = ⊥
IsForMemory (gather.Drawn held drawn) = ⊥

-- a run that misses nothing is refused for memory, a thread, the number of its workers or an upload
-- that was not lent
abbrev pub MissesNothing : RunFault → Type 0
MissesNothing run.Workers = Unit {0}
MissesNothing run.NoMemory = Unit {0}
MissesNothing (run.Gather fault) = IsForMemory fault
MissesNothing (run.Unavailable unavailable) = Unit {0}

-- the number of workers is refused first
abbrev pub IsRunFault : ℕ → RunFault → Type 0
IsRunFault workers run.Workers = (workers ≡ 0) ⊎ (16 < workers)
IsRunFault workers run.NoMemory = (0 < workers) × (workers ≤ 16)
IsRunFault workers (run.Gather fault) = (0 < workers) × (workers ≤ 16)
IsRunFault workers (run.Unavailable unavailable) = (0 < workers) × (workers ≤ 16)
