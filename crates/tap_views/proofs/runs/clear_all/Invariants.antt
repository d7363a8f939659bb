use Rattle.std.proofs.Common.{◌≡◌, ◌<◌, [], ℕ, slice_index_or}
use Rattle.tap_views.proofs.runs.clear_all.Given as goal

abbrev pub invariant-loop-positions : goal.invariant-loop-positions
invariant-loop-positions l = (k : ℕ) → k < l.positions-index → slice_index_or l.lists k [] ≡ []
