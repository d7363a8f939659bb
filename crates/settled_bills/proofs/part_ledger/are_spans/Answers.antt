use Rattle.std.proofs.{Common.arith, lemmas.List.same_lists}
use Rattle.settled_bills.proofs.part_ledger.are_spans.Goals as goal

pub returns : goal.returns
returns c = λ yes.
    let long = c.if-made-spans.false in
    let stop = c.loop-at-test.false in
    same_lists c.args.made.now c.args.spans.now (omega (arith, long))
    (λ k d low. c.loop-at.invariant k d (omega (arith, low, stop)))
