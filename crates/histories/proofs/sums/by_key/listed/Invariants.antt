use Rattle.std.proofs.Common.{◌≡◌, map, take, length, vec_len, vec_capacity}
use Rattle.std.specs.HashMap.{get}
use Rattle.histories.specs.TalliesByKey.{kept_sums}
use Rattle.histories.proofs.sums.by_key.listed.Given as goal

abbrev pub invariant-loop-key : goal.invariant-loop-key
invariant-loop-key g l =
    (map g.K.SumKey.shown l.list.items
    ≡ map (λ key. (key, kept_sums (get g.K.PartialEq.eq l.tallies key)))
    (take l.key-index l.key-items))
    × (vec_len l.list ≡ l.key-index) × (vec_capacity l.list ≡ length l.key-items)
