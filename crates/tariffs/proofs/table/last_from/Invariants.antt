use Rattle.std.proofs.Common.{◌≡◌, drop, map}
use Rattle.tariffs.specs.{Following.last_from, inside.Table.dated_meaning}
use Rattle.tariffs.proofs.table.last_from.Given as goal

-- what is left decides
abbrev pub invariant-loop-dated : goal.invariant-loop-dated
invariant-loop-dated l = last_from l.last (map dated_meaning (drop l.dated-index l.later))
    ≡ last_from 0 (map dated_meaning l.later)
