-- Runs: what private functions alone cite.
use Rattle.std.specs.{Borrow.Bor, List.AllByRecursion, Prelude.◌≡◌}
use Rattle.std.specs.Prelude.{ℕ, ◌<◌, List, slice_get, Option, Some, None, flat_map, option_to_list}
use Rattle.tap_views.specs.{Layout.Tap, Shards.run_of}

-- if a run keeps its places, they are these
abbrev pub ArePositionsKept : Option (Bor (List ℕ)) → List ℕ → Type 0
ArePositionsKept None positions = Unit {0}
ArePositionsKept (Some kept) positions = kept.now ≡ positions

-- the taps that a run still has to give: of a shard, or at the places that are kept
abbrev pub left_of : Option (Bor (List ℕ)) → ℕ → ℕ → List Tap → List Tap
left_of None shard shards taps = run_of shard shards taps
left_of (Some positions) shard shards taps =
    flat_map (λ position. option_to_list (slice_get taps position)) positions.now

-- if a run keeps its places, each is below the count
abbrev pub ArePositionsBelow : Option (Bor (List ℕ)) → ℕ → Type 0
ArePositionsBelow None count = Unit {0}
ArePositionsBelow (Some positions) count = AllByRecursion (λ position. position < count) positions.now
