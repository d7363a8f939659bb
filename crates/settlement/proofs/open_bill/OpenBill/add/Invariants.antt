use Rattle.std.proofs.Common.{◌≡◌, List, ◌++◌, take}
use Rattle.settlement.specs.{Nondecreasing.last_token, OpenBills.IsOpenBill}
use Rattle.tap_views.specs.declared.encoder.TapFields.{TapFields}
use Rattle.settlement.proofs.open_bill.OpenBill.add.Given as goal

-- the taps so far were added
abbrev pub invariant-loop-tap : goal.invariant-loop-tap
invariant-loop-tap l = record {
  bill : (before : List TapFields) → IsOpenBill l.table before l.fn.self
      → IsOpenBill l.table (before ++ take l.tap-index l.taps) l.self;
  token : l.self.replay.token ≡ last_token l.fn.self.replay.token (take l.tap-index l.taps);
}
