use Rattle.std.proofs.Common.{◌≡◌, map, take, length, vec_len, vec_capacity}
use Rattle.histories.specs.{Counts.token_counts, Shown.token_sum}
use Rattle.histories.proofs.sums.widened_sums.Given as goal

abbrev pub invariant-loop-counts : goal.invariant-loop-counts
invariant-loop-counts l =
    (map token_sum l.sums.items ≡ map token_counts (take l.counts-index l.list))
    × (vec_len l.sums ≡ l.counts-index) × (vec_capacity l.sums ≡ length l.list)
