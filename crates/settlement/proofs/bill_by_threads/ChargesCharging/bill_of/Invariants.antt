use Rattle.std.proofs.Common.{take}
use Rattle.settlement.specs.inside.Billing.{AreAdded}
use Rattle.settlement.proofs.PartBills.{flat}
use Rattle.settlement.proofs.bill_by_threads.ChargesCharging.bill_of.Given as goal

abbrev pub invariant-loop-pieces : goal.invariant-loop-pieces
invariant-loop-pieces g l = AreAdded l.self.table.now (flat (take l.pieces-index l.parts)) l.bill
