-- The taps of a shard, taken out of a batch.
use Rattle.std.proofs.Common.{◌≡◌, ℕ, suc, ◌==◌, ◌≤◌, Bool, true, false, cond, List, [], ◌∷◌}
use Rattle.std.proofs.Common.{length, refl, ap, ◌∙◌, arith}
use Rattle.std.proofs.lemmas.Bool.{eqb-true, eq-eqb}
use Rattle.std.specs.List.{AllByRecursion}
use Rattle.tap_views.specs.Layout.{Tap, IsTap}
use Rattle.tap_views.specs.Shards.{shard_of_token, run_of, IsShardTap}

module _ (shard shards : ℕ) where
  own-step : (tap : Tap) (taps : List Tap) (own : Bool)
      → (shard_of_token tap.token shards == shard) ≡ own → IsTap tap
      → AllByRecursion (IsShardTap shard shards) (run_of shard shards taps)
      → AllByRecursion (IsShardTap shard shards) (run_of shard shards (tap ∷ taps))
  own-step tap taps true is sound more = rw is (
    record {
      is_tap = sound;
      in_shard = eqb-true _ _ is;
    },
    more,
  )
  own-step tap taps false is sound more = rw is more

  -- each tap of a run is a tap of its shard
  pub own_taps : (taps : List Tap) → AllByRecursion IsTap taps
      → AllByRecursion (IsShardTap shard shards) (run_of shard shards taps)
  own_taps [] all = tt
  own_taps (tap ∷ taps) all =
      own-step tap taps (shard_of_token tap.token shards == shard) refl all.0 (own_taps taps all.1)

  -- a run has at most as many taps as its batch
  pub few_taps : (taps : List Tap) → length (run_of shard shards taps) ≤ length taps
  few_taps [] = omega arith
  few_taps (tap ∷ taps) = few-step (shard_of_token tap.token shards == shard) (few_taps taps)
    where
      few-step : (own : Bool) → length (run_of shard shards taps) ≤ length taps
          → length (cond own (tap ∷ run_of shard shards taps) (run_of shard shards taps))
          ≤ suc (length taps)
      few-step true few = omega arith
      few-step false few = omega arith

  -- a tap of the shard is the first of its run
  pub run_of-own : (taps more : List Tap) (tap : Tap) → taps ≡ tap ∷ more
      → shard_of_token tap.token shards ≡ shard
      → run_of shard shards taps ≡ tap ∷ run_of shard shards more
  run_of-own taps more tap is own =
      let test : (shard_of_token tap.token shards == shard) ≡ true = eq-eqb _ _ own in
      ap (run_of shard shards) is ∙ rw test refl
