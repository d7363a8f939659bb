-- The shards: a token belongs to one of them, and a run is the taps of one shard.
use Rattle.std.specs.Prelude.{◌≡◌, ℕ, ◌%◌, ◌==◌, List, drop, filter}
use Rattle.tap_views.specs.Layout.{num, Tap, IsTap}

-- the shard of a token of 16 bytes: the number in its last two bytes, modulo the shards
abbrev pub shard_of_token : List ℕ → ℕ → ℕ
shard_of_token token shards = num (drop 14 token) % shards

-- the taps of one shard, in their order
abbrev pub run_of : ℕ → ℕ → List Tap → List Tap
run_of shard shards taps = filter (λ tap. shard_of_token tap.token shards == shard) taps

-- a run: a batch, and the shard whose taps it keeps
pub record ShardRun : Type 0 where
  pub batch : List Tap
  pub shard : ℕ
  pub shards : ℕ

-- the taps of a run
abbrev pub run_taps : ShardRun → List Tap
run_taps run = run_of run.shard run.shards run.batch

-- a tap of the shard
pub record IsShardTap (shard shards : ℕ) (tap : Tap) : Type 0 where
  pub is_tap : IsTap tap
  pub in_shard : shard_of_token tap.token shards ≡ shard
