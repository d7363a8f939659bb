use Rattle.std.proofs.Common.{arith}
use Rattle.ledger_check.proofs.CheckerLemmas.{kept_right, too_long}
use Rattle.ledger_check.proofs.checker.Checker.keep.Goals as goal

pub overflow_add-result : goal.overflow_add-result
overflow_add-result c =
    let given = c.requires.fed in
    let is = given.4 in
    let after = c.in_ok-keep.ensures given.0 given.2 is.taken is.fed in
    omega (arith, after.lines.sums.lines, after.lines.sums.few)

pub returns-then-len-gt-MAX_LINE_BYTES : goal.returns-then-len-gt-MAX_LINE_BYTES
returns-then-len-gt-MAX_LINE_BYTES c = λ fares balance text valid is.
    let after = c.in_ok-keep.ensures fares text is.taken is.fed in
    too_long fares _ balance _ valid (kept_right fares c.args.self.now _ balance text
    c.args.rest.now valid is after) (omega (arith, c.keep.new.self.started.ok.0))

pub returns : goal.returns
returns c = λ fares balance text valid is.
    kept_right fares c.args.self.now _ balance text c.args.rest.now valid is
    (c.in_ok-keep.ensures fares text is.taken is.fed)
