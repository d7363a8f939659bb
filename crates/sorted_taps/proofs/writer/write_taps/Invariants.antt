use Rattle.std.proofs.Common.{take, flat_map}
use Rattle.sorted_taps.specs.inside.Waiting.{HasPut, MayWait}
use Rattle.sorted_taps.proofs.writer.write_taps.Given as goal

abbrev pub invariant-loop-list : goal.invariant-loop-list
invariant-loop-list g l = record {
  may_wait : MayWait l.waiting.items;
  put : HasPut (g.W.Write.contents l.fn.out) (g.W.Write.contents l.out)
      (flat_map (λ list. list.items) (take l.list-index l.lists)) l.waiting.items;
}
