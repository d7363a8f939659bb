use Rattle.std.proofs.Common.{take}
use Rattle.settled_bills.specs.inside.Taken.{AreFollowing}
use Rattle.settled_bills.proofs.taker.last_of.Given as goal

abbrev pub invariant-loop-tap : goal.invariant-loop-tap
invariant-loop-tap l = AreFollowing l.fn.last (take l.tap-index l.taps) l.last
