use Rattle.std.proofs.Common.{◌≡◌, ◌+◌, drop, map}
use Rattle.tariffs.specs.inside.Table.{started, dated_meaning}
use Rattle.tariffs.proofs.table.started.Given as goal

-- those so far are counted, and what is left decides
abbrev pub invariant-loop-dated : goal.invariant-loop-dated
invariant-loop-dated l = record {
  all : l.count ≡ l.dated-index;
  rest : l.count + started l.moment (map dated_meaning (drop l.dated-index l.later))
      ≡ started l.moment (map dated_meaning l.later);
}
