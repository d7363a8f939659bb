use Rattle.std.proofs.Common.{refl, arith}
use Rattle.settlement.proofs.OpenBills.{closed_none, closed_some, counted_taps}
use Rattle.settlement.proofs.open_bill.OpenBill.close.Goals as goal

pub returns-then-not-self-clause-bill : goal.returns-then-not-self-clause-bill
returns-then-not-self-clause-bill c = λ fares taps is.
    closed_none fares taps c.args.self.now is c.if-not-self.true

pub add_all-requires : goal.add_all-requires
add_all-requires c =
    let (fares, taps, is, few) = c.requires in
    let counted = counted_taps fares taps c.args.self.now is in
    omega (arith, counted, few)

pub push-requires : goal.push-requires
push-requires c =
    let (fares, taps, is, few) = c.requires in
    let counted = counted_taps fares taps c.args.self.now is in
    omega (arith, counted, few)

pub returns-clause-bill : goal.returns-clause-bill
returns-clause-bill c = λ fares taps is.
    closed_some fares taps c.args.self.now is _ c.if-not-self.false c.in_ok-push.ensures
    c.add_all.ensures refl
