use Rattle.std.proofs.Common.{length, map}
use Rattle.settled_bills.specs.inside.{Charged.IsCharged, Taken.IsReady}
use Rattle.settled_bills.proofs.charges.charge.Given as goal

-- the taps taken so far were added
abbrev pub invariant-loop-round : goal.invariant-loop-round
invariant-loop-round g l = record {
  ready : IsReady (length l.files) l.taker;
  charged : IsCharged l.table (map g.F.Placed.bytes l.files) l.fn.taker.merge.readers.items
      l.fn.so_far.replay.token l.taker.merge.readers.items l.so_far l.count;
}
