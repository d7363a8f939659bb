-- Runs: what private functions alone cite.
use Rattle.std.specs.Prelude.{ℕ, ◌==◌, Bool, MatchBool, List, filter}
use Rattle.fare_service.specs.Runs.{AreCut, ArePostedWhole, PostedRun, RunVisit}

-- the runs were posted whole, or up to a cut
abbrev pub ArePostedOrCut : List PostedRun → Bool → List RunVisit → Type 0
ArePostedOrCut runs whole visits = MatchBool whole (ArePostedWhole runs visits) (AreCut runs visits)

-- the visits to a shard
abbrev pub visits_to : ℕ → List RunVisit → List RunVisit
visits_to shard visits = filter (λ visit. visit.shard == shard) visits
