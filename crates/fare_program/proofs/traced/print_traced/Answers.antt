use Rattle.fare_program.proofs.Ends.{printed}
use Rattle.fare_program.proofs.traced.print_traced.Goals as goal

pub returns-in-Err-clause-ends : goal.returns-in-Err-clause-ends
returns-in-Err-clause-ends g c = rw c.of_print.ensures
    (printed g.W.Write.contents _ _ _ c.in-Err.fault c.in-Err.ensures.fault
    (λ write.
    let (text, whole, traced, started) = c.in-Err.ensures.started write in
    (text, (λ given. (whole, traced)), started)))
