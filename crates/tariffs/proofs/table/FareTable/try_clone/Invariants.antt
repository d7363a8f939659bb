use Rattle.std.proofs.Common.{◌≡◌, map, take}
use Rattle.tariffs.specs.inside.Table.{dated_meaning}
use Rattle.tariffs.proofs.table.FareTable.try_clone.Given as goal

-- those so far are cloned
abbrev pub invariant-loop-dated : goal.invariant-loop-dated
invariant-loop-dated l = map dated_meaning l.later.items
    ≡ map dated_meaning (take l.dated-index l.self-inside.later.items)
