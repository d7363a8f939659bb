use Rattle.std.proofs.Common.{List, ◌++◌, take}
use Rattle.settlement.specs.OpenBills.{IsOpenBill}
use Rattle.settled_bills.specs.inside.Taken.{AreFollowing}
use Rattle.tap_views.specs.declared.encoder.TapFields.{TapFields}
use Rattle.settled_bills.proofs.charges.add_following.Given as goal

-- the taps so far were added
abbrev pub invariant-loop-tap : goal.invariant-loop-tap
invariant-loop-tap l = record {
  following : AreFollowing l.fn.so_far.replay.token (take l.tap-index l.taps)
      l.so_far.replay.token;
  bill : (before : List TapFields) → IsOpenBill l.table before l.fn.so_far
      → IsOpenBill l.table (before ++ take l.tap-index l.taps) l.so_far;
}
