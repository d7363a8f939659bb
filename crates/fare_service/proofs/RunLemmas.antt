-- Runs that were posted, one list of them after another.
use Rattle.std.proofs.Common.{refl, sym, ◌∙◌, ap, inl, inr, subst, append_assoc, arith}
use Rattle.fare_service.specs.Runs.{PostedRun, posted_run, if_any, runs_below, RunVisit}
use Rattle.fare_service.specs.Runs.{run_of_visit, ArePostedWhole, AreCut}
use Rattle.std.proofs.lemmas.List.{map-append}
use Rattle.std.specs.Prelude.{ℕ, zero, suc, ◌≡◌, ◌⊎◌, ◌+◌, ◌<◌, List, [], ◌∷◌, ◌++◌, length, map}
use Rattle.std.specs.Prelude.{take}
use Rattle.tap_views.specs.{Layout.Tap, Shards.run_of}

-- a run with a tap is there
pub some_run : (shard : ℕ) (taps : List Tap) → 0 < length taps
    → if_any shard taps ≡ posted_run shard taps ∷ []
some_run shard [] some = absurd (omega arith)
some_run shard (tap ∷ taps) some = refl

-- no tap, no run
pub no_run : (shard : ℕ) (taps : List Tap) → length taps ≡ 0 → if_any shard taps ≡ []
no_run shard [] none = refl
no_run shard (tap ∷ taps) none = absurd (omega arith)

pub posted_posted : (first then : List PostedRun) (visits more : List RunVisit)
    → ArePostedWhole first visits → ArePostedWhole then more
    → ArePostedWhole (first ++ then) (visits ++ more)
posted_posted first then visits more a b =
    map-append run_of_visit visits more
    ∙ (ap (λ rs. rs ++ map run_of_visit more) a ∙ ap (λ rs. first ++ rs) b)

-- runs before a cut
pub posted_cut : (first then : List PostedRun) (visits more : List RunVisit)
    → ArePostedWhole first visits → AreCut then more → AreCut (first ++ then) (visits ++ more)
posted_cut first then visits more a b = record {
  before = first ++ b.before;
  cut = b.cut;
  after = b.after;
  all = ap (λ rs. first ++ rs) b.all ∙ sym (append_assoc first b.before (b.cut ∷ b.after));
  some_tap = b.some_tap;
  made = made b.made;
}
  where
    joined : (rest : List PostedRun) → map run_of_visit more ≡ rest
        → map run_of_visit (visits ++ more) ≡ first ++ rest
    joined rest e = map-append run_of_visit visits more
        ∙ (ap (λ rs. rs ++ map run_of_visit more) a ∙ ap (λ rs. first ++ rs) e)

    made : ((map run_of_visit more ≡ b.before)
        ⊎ ((posted : ℕ) × (posted < length b.cut.taps)
        × (map run_of_visit more
        ≡ b.before ++ posted_run b.cut.shard (take posted b.cut.taps) ∷ [])))
        → (map run_of_visit (visits ++ more) ≡ first ++ b.before)
        ⊎ ((posted : ℕ) × (posted < length b.cut.taps)
        × (map run_of_visit (visits ++ more)
        ≡ (first ++ b.before) ++ posted_run b.cut.shard (take posted b.cut.taps) ∷ []))
    made (inl e) = inl (joined b.before e)
    made (inr (posted, few, e)) =
        inr (
          posted,
          few,
          joined (b.before ++ posted_run b.cut.shard (take posted b.cut.taps) ∷ [])
              e ∙ sym (append_assoc first b.before
              (posted_run b.cut.shard (take posted b.cut.taps) ∷ [])),
        )

-- nothing more is posted after a cut
pub cut_early : (first then : List PostedRun) (visits : List RunVisit) → AreCut first visits
    → AreCut (first ++ then) visits
cut_early first then visits c = record {
  before = c.before;
  cut = c.cut;
  after = c.after ++ then;
  all = ap (λ rs. rs ++ then) c.all ∙ append_assoc c.before (c.cut ∷ c.after) then;
  some_tap = c.some_tap;
  made = c.made;
}

-- a run of which nothing was posted
pub cut_none : (shard : ℕ) (taps : List Tap) → 0 < length taps → AreCut (if_any shard taps) []
cut_none shard taps some = record {
  before = [];
  cut = posted_run shard taps;
  after = [];
  all = some_run shard taps some;
  some_tap = some;
  made = inl refl;
}

-- a run of which the first taps were posted
pub cut_some : (shard : ℕ) (taps : List Tap) (posted : ℕ) (visit : RunVisit)
    → posted < length taps → run_of_visit visit ≡ posted_run shard (take posted taps)
    → AreCut (if_any shard taps) (visit ∷ [])
cut_some shard taps posted visit few e = record {
  before = [];
  cut = posted_run shard taps;
  after = [];
  all = some_run shard taps (omega arith);
  some_tap = omega arith;
  made = inr (posted, few, ap (λ r. r ∷ []) e);
}

-- a run that was posted whole
pub whole_run : (shard : ℕ) (taps : List Tap) (visit : RunVisit) → 0 < length taps
    → run_of_visit visit ≡ posted_run shard taps → ArePostedWhole (if_any shard taps) (visit ∷ [])
whole_run shard taps visit some e = ap (λ r. r ∷ []) e ∙ sym (some_run shard taps some)

-- the runs of one more shard
pub below_more : (shards shard : ℕ) (taps : List Tap)
    → runs_below shards (shard + 1) taps
    ≡ runs_below shards shard taps ++ if_any shard (run_of shard shards taps)
below_more shards shard taps =
    let e : shard + 1 ≡ suc shard = omega arith in
    ap (λ n. runs_below shards n taps) e

-- a batch cut at one of its shards is cut, whatever shards are left
pub below_cut : (shards shard left : ℕ) (taps : List Tap) (visits : List RunVisit)
    → AreCut (runs_below shards shard taps) visits
    → AreCut (runs_below shards (left + shard) taps) visits
below_cut shards shard zero taps visits c =
    let e : shard ≡ 0 + shard = omega arith in
    let P : ℕ → Type 0 = λ n. AreCut (runs_below shards n taps) visits in
    subst P e c
below_cut shards shard (suc left) taps visits c =
    let e : suc (left + shard) ≡ suc left + shard = omega arith in
    let P : ℕ → Type 0 = λ n. AreCut (runs_below shards n taps) visits in
    subst P e
    (cut_early (runs_below shards (left + shard) taps)
    (if_any (left + shard) (run_of (left + shard) shards taps)) visits
    (below_cut shards shard left taps visits c))
