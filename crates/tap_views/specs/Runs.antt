-- The places of a batch's taps, shard by shard.
use Rattle.std.specs.Prelude.{◌≡◌, ℕ, suc, ◌==◌, ◌<◌, List, [], ◌∷◌, length, slice_index_or}
use Rattle.std.specs.Prelude.{if◌then◌else◌}
use Rattle.tap_views.specs.{Layout.Tap, Shards.shard_of_token}

-- the places of the taps of a shard, if the first tap has the place `at`
abbrev pub positions_from : ℕ → ℕ → ℕ → List Tap → List ℕ
positions_from shard shards at [] = []
positions_from shard shards at (tap ∷ taps) =
    if shard_of_token tap.token shards == shard then at ∷ positions_from shard shards (suc at) taps
    else positions_from shard shards (suc at) taps

-- a list for each shard: the places of its taps in the batch, from 0
pub record AreRuns (taps : List Tap) (lists : List (List ℕ)) : Type 0 where
  pub each : (shard : ℕ) → shard < length lists
      → slice_index_or lists shard [] ≡ positions_from shard (length lists) 0 taps
