use Rattle.std.proofs.Common.{◌≡◌, [], drop}
use Rattle.fare_table.specs.Transfers.{pairs_with}
use Rattle.fare_table.proofs.read.transfers.pairs_of.Given as goal

-- the pairs of the whole are those so far and those of what is left
abbrev pub invariant-loop-one : goal.invariant-loop-one
invariant-loop-one l =
    pairs_with [] l.found ≡ pairs_with l.transfers (drop l.one-index l.found)
