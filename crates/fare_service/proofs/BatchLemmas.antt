-- A batch, posted run by run.
use Rattle.std.proofs.Common.{sym, subst, arith}
use Rattle.fare_service.proofs.RunLemmas.{posted_posted, posted_cut, below_more, below_cut}
use Rattle.fare_service.proofs.VisitLemmas.{made_more}
use Rattle.fare_service.specs.Runs.{PostedRun, if_any, runs_below, RunVisit, ArePostedWhole, AreCut}
use Rattle.fare_service.specs.{Shares.HasVisited, declared.service.working.Stop.Stop}
use Rattle.fare_service.specs.inside.Runs.{ArePostedOrCut}
use Rattle.histories.specs.Sums.{Sums}
use Rattle.shared_books.specs.Passes.{PassView}
use Rattle.std.specs.Prelude.{ℕ, ◌≡◌, ◌+◌, ◌-◌, ◌<◌, List, ◌++◌, Result, Ok, Err, is_ok, IsErr}
use Rattle.tap_views.specs.{Layout.Tap, Shards.run_of}

-- some runs were posted whole, and then others, whole or up to a cut
abbrev pub Posts : ℕ → List PassView → List PassView → Sums → Sums → List PostedRun → Type 0
Posts shards p q s t runs =
    (more : List RunVisit) × HasVisited shards p q s t more × ArePostedWhole runs more

abbrev pub Cuts : ℕ → List PassView → List PassView → Sums → Sums → List PostedRun → Type 0
Cuts shards p q s t runs =
    (more : List RunVisit) × HasVisited shards p q s t more × AreCut runs more

pub posts_more : (shards : ℕ) (p q r : List PassView) (s t u : Sums) (first then : List PostedRun)
    → Posts shards p q s t first → Posts shards q r t u then → Posts shards p r s u (first ++ then)
posts_more shards p q r s t u first then (xs, made, posted) (ys, more, also) = (
  xs ++ ys,
  made_more shards p q r s t u xs ys made more,
  posted_posted first then xs ys posted also,
)

pub posts_cut : (shards : ℕ) (p q r : List PassView) (s t u : Sums) (first then : List PostedRun)
    → Posts shards p q s t first → Cuts shards q r t u then → Cuts shards p r s u (first ++ then)
posts_cut shards p q r s t u first then (xs, made, posted) (ys, more, also) = (
  xs ++ ys,
  made_more shards p q r s t u xs ys made more,
  posted_cut first then xs ys posted also,
)

-- the run of one more shard
pub batch_more : (shards shard : ℕ) (taps : List Tap) (p q r : List PassView) (s t u : Sums)
    → Posts shards p q s t (runs_below shards shard taps)
    → Posts shards q r t u (if_any shard (run_of shard shards taps))
    → Posts shards p r s u (runs_below shards (shard + 1) taps)
batch_more shards shard taps p q r s t u before here =
    let P : List PostedRun → Type 0 = Posts shards p r s u in
    subst P (sym (below_more shards shard taps))
    (posts_more shards p q r s t u (runs_below shards shard taps)
    (if_any shard (run_of shard shards taps)) before here)

-- a run that was cut
pub batch_cut : (shards shard : ℕ) (taps : List Tap) (p q r : List PassView) (s t u : Sums)
    → shard < shards
    → Posts shards p q s t (runs_below shards shard taps)
    → Cuts shards q r t u (if_any shard (run_of shard shards taps))
    → Cuts shards p r s u (runs_below shards shards taps)
batch_cut shards shard taps p q r s t u within before here =
    let (more, made, cut) =
    posts_cut shards p q r s t u (runs_below shards shard taps)
    (if_any shard (run_of shard shards taps)) before here in
    let P : List PostedRun → Type 0 = λ runs. AreCut runs more in
    let N : ℕ → Type 0 = λ n. AreCut (runs_below shards n taps) more in
    let rest : (shards - (shard + 1)) + (shard + 1) ≡ shards = omega arith in (
      more,
      made,
      subst N rest
          (below_cut shards (shard + 1) (shards - (shard + 1)) taps more
          (subst P (sym (below_more shards shard taps)) cut)),
    )

-- what was cut, shown by an answer that is an error
pub cuts_reported : {A : Type 0} (r : Result A Stop) (shards : ℕ) (p q : List PassView) (s t : Sums)
    (runs : List PostedRun) → IsErr r → Cuts shards p q s t runs
    → (more : List RunVisit) × HasVisited shards p q s t more × ArePostedOrCut runs (is_ok r) more
cuts_reported (Ok x) shards p q s t runs err c = absurd (cc)
cuts_reported (Err e) shards p q s t runs err c = c
