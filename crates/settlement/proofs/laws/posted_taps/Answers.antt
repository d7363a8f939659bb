use Rattle.settlement.proofs.{OnlyTaps.own_posted, SettledOrders.posted_history}
use Rattle.settlement.proofs.laws.posted_taps.Goals as goal

pub returns-clause-history : goal.returns-clause-history
returns-clause-history c = λ fares uploads order is. posted_history fares uploads order is

pub returns-clause-own : goal.returns-clause-own
returns-clause-own c = λ fares token order. own_posted fares token order
