use Rattle.std.proofs.Common.{List, sym, subst}
use Rattle.histories.specs.declared.entry.Entry.{Entry}
use Rattle.settlement.specs.Settled.{IsSettledHistory}
use Rattle.settled_bills.proofs.JoinedParts.{parts_ended, settled_parts}
use Rattle.settled_bills.proofs.laws.joined_parts_are_settled.Goals as goal

pub returns-clause-settled : goal.returns-clause-settled
returns-clause-settled c = λ fares files parts are whole increase.
    let all = settled_parts fares files parts are whole increase in
    subst (λ (history : List Entry). IsSettledHistory fares files history) (sym all.are)
    (c.posted_taps.ensures.history fares files all.taps all.settled)

pub returns-clause-ended : goal.returns-clause-ended
returns-clause-ended c = parts_ended
