use Rattle.std.proofs.Common.{arith}
use Rattle.histories.proofs.ByKeyLemmas.{sums-listed}
use Rattle.histories.proofs.sums.by_key.listed.Goals as goal

pub returns : goal.returns
returns g c = λ entries by_key.
    sums-listed _ _ _ entries c.args.tallies.now.entries c.in_ok-keys.keys.items
    c.deref-key-items.result.now c.loop-key.key-index _ c.loop-key.invariant.0
    (omega arith) c.deref-key-items.ensures.value (c.in_ok-keys.ensures entries by_key) by_key
