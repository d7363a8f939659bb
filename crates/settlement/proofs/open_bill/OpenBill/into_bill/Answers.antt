use Rattle.settlement.proofs.open_bill.OpenBill.into_bill.Goals as goal

pub close-requires : goal.close-requires
close-requires c = c.requires

pub returns : goal.returns
returns c = λ fares taps is. c.in_ok-close.ensures.bill fares taps is
