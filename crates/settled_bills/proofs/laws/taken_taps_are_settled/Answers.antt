use Rattle.settled_bills.proofs.SettledFiles.{settled_list}
use Rattle.settled_bills.proofs.laws.taken_taps_are_settled.Goals as goal

pub returns : goal.returns
returns c = λ files started end taps is taken at_end named.
    let (lists, sorted, canonical) =
    c.taken_taps_are_canonical.ensures files started end taps is taken at_end in
    settled_list files lists taps sorted canonical named
