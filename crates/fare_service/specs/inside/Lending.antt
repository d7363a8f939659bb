-- Lending: what private functions alone cite.
use Rattle.fare_service.specs.{Lending.IsUnavailable, ServiceView.ServiceView, ShareView.ShareView}
use Rattle.fare_service.specs.{Shares.IsShareOf, declared.faults.RunFault.RunFault}
use Rattle.fare_service.specs.{declared.lending.Unavailable.Unavailable, inside.Stopping.WorkedOn}
use Rattle.std.specs.Prelude.{List, Result, Err, Contains, IfErr, IfOk}
use Rattle.fare_service.specs.declared.faults.RunFault.TheVariants as run

-- what a worker answers: the share that it went on with, or an upload that was not lent
pub record IsAnswer (service : ServiceView) (old : ShareView) (answer : Result ShareView Unavailable)
    : Type 0 where
  pub share : IfOk answer (IsShareOf service)
  pub worked : IfOk answer (WorkedOn service old)
  pub unavailable : IfErr answer (λ u. IsUnavailable service.uploads u.upload)

-- why there are not all shares: an allocation failed, or a worker named an upload that was not lent
abbrev pub IsFaultOf : List (Result ShareView Unavailable) → RunFault → Type 0
IsFaultOf answers run.Workers = ⊥
IsFaultOf answers run.NoMemory = Unit {0}
IsFaultOf answers (run.Gather fault) = ⊥
IsFaultOf answers (run.Unavailable unavailable) = Contains answers (Err unavailable)
