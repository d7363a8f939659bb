use Rattle.std.proofs.Common.{◌<◌, get_or, ap, arith}
use Rattle.std.proofs.lemmas.List.{take_all, Elements.All-more}
use Rattle.tap_views.specs.Layout.{moment_limit}
use Rattle.tap_views.proofs.encoder.check.Goals as goal

pub loop-i-preserved : goal.loop-i-preserved
loop-i-preserved g c =
    let read = ap g.T.Timed.moment_of c.index-taps-i.is in
    let early : g.T.Timed.moment_of (get_or c.args.taps.now c.loop-i.i c.index-taps-i.result)
    < moment_limit =
    omega (arith, read) in
    All-more (λ tap. g.T.Timed.moment_of tap < moment_limit) c.args.taps.now c.loop-i.i
    c.index-taps-i.result c.loop-i-test.true c.loop-i.invariant early

pub returns-clause-ok : goal.returns-clause-ok
returns-clause-ok g c = (
  c.if-taps-gt-MAX_TAPS.false,
  rw (← take_all c.loop-i.i c.args.taps.now c.loop-i-test.false)
      c.loop-i.invariant,
)
