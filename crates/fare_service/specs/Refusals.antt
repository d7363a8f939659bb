-- Why the shares of a run were not gathered.
use Rattle.fare_service.specs.{Closing.ReportsFirst, Faults.IsGatherFault, Lending.IsUnavailable}
use Rattle.fare_service.specs.ServiceView.{ServiceView, shards_of}
use Rattle.fare_service.specs.{ShareView.ShareView, Shares.IsShareOf}
use Rattle.fare_service.specs.declared.faults.RunFault.{RunFault, TheVariants.Workers}
use Rattle.fare_service.specs.declared.faults.RunFault.TheVariants.{NoMemory, Gather, Unavailable}
use Rattle.std.specs.Prelude.{◌≡◌, ℕ, List, length, All}

-- There were as many shares of the service as workers, and gathering them was refused for this. Of
-- an upload that was not lent, the bytes are not known.
abbrev pub WasNotGathered : ServiceView → ℕ → RunFault → Type 0
WasNotGathered service workers Workers = Unit {0}
WasNotGathered service workers NoMemory = Unit {0}
WasNotGathered service workers (Gather fault) =
    (shares : List ShareView) × (length shares ≡ workers) × All (IsShareOf service) shares
    × IsGatherFault (shards_of service) shares fault
    × ReportsFirst service.books (length service.uploads) shares fault
WasNotGathered service workers (Unavailable unavailable) = IsUnavailable service.uploads unavailable.upload
