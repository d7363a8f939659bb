-- Each slot has what its own call left.
use Rattle.std.proofs.Common.{subst, arith}
use Rattle.settled_bills.specs.inside.WorkerSlots.{HasSat}
use Rattle.settled_bills.proofs.rounds.sit.Goals as goal

pub returns : goal.returns
returns g c = λ position slot inside.
    let long = c.for_each_mut.auto.s in
    let at = (c.for_each_mut.ensures position slot (omega (arith, inside, long))).1 in
    subst (HasSat c.args.table.now c.args.taps.now) at.left at.call
