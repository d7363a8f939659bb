use Rattle.std.proofs.Common.{◌≡◌, ◌+◌, arith, get_or, take}
use Rattle.std.specs.Prelude.{sum}
use Rattle.std.proofs.lemmas.List.Sums.{sum_by_more}
use Rattle.settled_bills.proofs.tap_numbers.count.Goals as goal

pub loop-number-preserved : goal.loop-number-preserved
loop-number-preserved c =
    let inv = c.loop-number.invariant in
    let counted = inv.counted in
    let few = inv.few in
    let numbers = c.args.numbers.now in
    let i = c.loop-number.number-index in
    let next : sum (take (i + 1) numbers) ≡ sum (take i numbers) + get_or numbers i 0 =
    sum_by_more (λ n. n) numbers i 0 c.loop-number-test.true in
    record { counted = omega (arith, counted, next); few = omega arith }
