use Rattle.std.proofs.Common.{◌≡◌, ℕ, List, Some, map, take}
use Rattle.settled_bills.specs.inside.OwnTaps.{AreOwnOf}
use Rattle.settled_bills.proofs.own_by_threads.join_all.Given as goal

-- the token's taps of the files so far were added
abbrev pub invariant-loop-index : goal.invariant-loop-index
invariant-loop-index g l = (all : List (List ℕ)) → map g.F.Placed.bytes l.files ≡ map Some all
    → AreOwnOf l.fn.token (take l.index all) l.taps.items l.numbers.items
