use Rattle.std.proofs.Common.{arith, rules}
use denote.Param.Send.{sendable}
use Rattle.settlement.proofs.bill_by_threads.Charges.TheSendSync.{the_sync as charges}
use Rattle.settlement.proofs.bill_by_threads.bill_by_threads.Goals as goal

pub bill_of_runs-requires : goal.bill_of_runs-requires
bill_of_runs-requires g c = λ k.
    let (bounds, start, are) = c.requires in
    let count = c.in_ok-count_of.ensures in (
      search rules,
      (search (charges, sendable, rules), (bounds, start, are, omega (arith, count))),
    )
