-- What workers answer: shares, or an upload that was not lent.
use Rattle.std.proofs.Common.{refl, subst, arith}
use Rattle.fare_service.specs.{Lending.IsUnavailable, Refusals.WasNotGathered}
use Rattle.fare_service.specs.{ServiceView.ServiceView, ShareView.ShareView, Shares.IsShareOf}
use Rattle.fare_service.specs.declared.faults.RunFault.{RunFault}
use Rattle.fare_service.specs.declared.faults.RunFault.TheVariants.{Workers, NoMemory, Gather}
use Rattle.fare_service.specs.declared.faults.RunFault.TheVariants.{Unavailable as ForUnavailable}
use Rattle.fare_service.specs.declared.lending.Unavailable.{Unavailable}
use Rattle.fare_service.specs.inside.{Lending.IsAnswer, Lending.IsFaultOf, Stopping.WorkedOn}
use Rattle.std.proofs.lemmas.List.Elements.{All-nil, All-cons, All-contains}
use Rattle.std.specs.List.{AllZip}
use Rattle.std.specs.Prelude.{◌≡◌, ℕ, List, [], ◌∷◌, length, map, All, Result, Ok, Err, IfErr}

-- all workers gave their shares back
pub record Answered (service : ServiceView) (olds news : List ShareView) : Type 0 where
  pub shares : All (IsShareOf service) news
  pub worked : AllZip (WorkedOn service) olds news
  pub number : length news ≡ length olds

all_answered : (service : ServiceView) (olds news : List ShareView)
    → AllZip (IsAnswer service) olds (map Ok news) → Answered service olds news
all_answered service [] [] zip =
    record { shares = All-nil (IsShareOf service); worked = tt; number = refl }
all_answered service [] (new ∷ news) zip = absurd zip
all_answered service (old ∷ olds) [] zip = absurd zip
all_answered service (old ∷ olds) (new ∷ news) zip =
    let rest = all_answered service olds news zip.1 in
    record {
      shares = All-cons (IsShareOf service) new news zip.0.share rest.shares;
      worked = (zip.0.worked, rest.worked);
      number = omega (arith, rest.number);
    }

pub answered : (service : ServiceView) (olds news : List ShareView)
    (answers : List (Result ShareView Unavailable)) → answers ≡ map Ok news
    → AllZip (IsAnswer service) olds answers → Answered service olds news
answered service olds news answers are zip =
    let Z : List (Result ShareView Unavailable) → Type 0 =
    λ rs. AllZip (IsAnswer service) olds rs in
    all_answered service olds news (subst Z are zip)

unavailable_each : (service : ServiceView) (olds : List ShareView)
    (answers : List (Result ShareView Unavailable)) → AllZip (IsAnswer service) olds answers
    → All (λ answer. IfErr answer (λ u. IsUnavailable service.uploads u.upload)) answers
unavailable_each service [] [] zip =
    All-nil (λ answer. IfErr answer (λ u. IsUnavailable service.uploads u.upload))
unavailable_each service [] (answer ∷ answers) zip = absurd zip
unavailable_each service (old ∷ olds) [] zip = absurd zip
unavailable_each service (old ∷ olds) (answer ∷ answers) zip =
    All-cons (λ a. IfErr a (λ u. IsUnavailable service.uploads u.upload)) answer answers
    zip.0.unavailable
    (unavailable_each service olds answers zip.1)

-- why there are not all shares is why nothing was gathered
pub fault_reported : (service : ServiceView) (workers : ℕ) (olds : List ShareView)
    (answers : List (Result ShareView Unavailable)) (fault : RunFault)
    → AllZip (IsAnswer service) olds answers → IsFaultOf answers fault
    → WasNotGathered service workers fault
fault_reported service workers olds answers Workers zip is = absurd is
fault_reported service workers olds answers NoMemory zip is = tt
fault_reported service workers olds answers (Gather fault) zip is = absurd is
fault_reported service workers olds answers (ForUnavailable unavailable) zip is =
    All-contains (λ answer. IfErr answer (λ u. IsUnavailable service.uploads u.upload)) answers
    (Err unavailable) (unavailable_each service olds answers zip) is
