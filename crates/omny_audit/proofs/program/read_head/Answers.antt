use Rattle.std.proofs.Common.{Bor, List, inr, option_map, refl, ℕ}
use Rattle.omny_audit.proofs.program.read_head.Goals as goal

pub returns-in-Err-clause-fault : goal.returns-in-Err-clause-fault
returns-in-Err-clause-fault c = λ run.
    inr ((c.args.ledger.now.trace.run, c.in-Err.ensures.refused), refl)

pub returns-in-Err-read-clause-fault : goal.returns-in-Err-read-clause-fault
returns-in-Err-read-clause-fault c = λ run.
    let name = option_map (λ (n : Bor (List ℕ)). n.now) c.args.name in inr (
      (
        c.loop-piece.ledger.trace.run,
        (c.in-Err-read.ensures.unread name c.loop-piece.head.items c.loop-piece.invariant).1,
      ),
      refl,
    )
