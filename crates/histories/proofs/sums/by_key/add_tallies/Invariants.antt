use Rattle.histories.proofs.MergeLemmas.{IsAdding}
use Rattle.histories.proofs.sums.by_key.add_tallies.Given as goal

abbrev pub invariant-loop-key : goal.invariant-loop-key
invariant-loop-key g l =
    IsAdding g.K.PartialEq.eq g.V.Summed.summed l.initial.tallies.entries l.more.entries
    l.tallies.entries l.key-iterator
