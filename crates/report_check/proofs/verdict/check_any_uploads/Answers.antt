use Rattle.std.proofs.Common.{arith}
use Rattle.std.proofs.lemmas.Result.{IfOk-weaker}
use Rattle.report_check.proofs.Verdicts.{other_taps, with_taps}
use Rattle.report_check.proofs.verdict.check_any_uploads.Goals as goal

pub returns-then-taps-sums : goal.returns-then-taps-sums
returns-then-taps-sums c =
    let found = rw c.in-Reported.is at c.in_ok-number.ensures in
    IfOk-weaker c.check_ends.result _ _ (λ verdict apart entries are.
    with_taps entries c.args.text.now c.args.sums.now c.in-Reported.ends.items c.deref.result.now
    c.deref-then-taps-sums.result.now c.taps_of-taps.result verdict are found c.deref.ensures.value
    c.deref-then-taps-sums.ensures.value c.taps_of-taps.ensures c.if-taps-sums.true
    (apart entries are)) c.check_ends.ensures

pub returns-else-taps-sums : goal.returns-else-taps-sums
returns-else-taps-sums c = λ entries are.
    let found = rw c.in-Reported.is at c.in_ok-number.ensures in
    other_taps entries c.args.text.now c.args.sums.now c.in-Reported.ends.items c.deref.result.now
    c.taps_of-taps.result _ are found c.deref.ensures.value c.taps_of-taps.ensures
    c.if-taps-sums.false (omega (arith, c.len.ensures))
