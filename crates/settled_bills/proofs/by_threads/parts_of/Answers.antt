use Rattle.std.proofs.Common.{arith, rules}
use Rattle.settled_bills.proofs.by_threads.parts_of.Goals as goal

pub returns : goal.returns
returns g c = λ k d low.
    let len = c.in_ok-parts.ensures.len in
    let long = c.in_ok-parts.parts.ok.0 in
    let call = (c.in_ok-parts.ensures.each k d (omega (arith, low, len, long))).1 in
    search rules
