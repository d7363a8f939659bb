use Rattle.std.proofs.Common.{◌<◌, take}
use Rattle.std.specs.Prelude.{All}
use Rattle.tap_views.specs.Layout.{moment_limit}
use Rattle.tap_views.proofs.encoder.check.Given as goal

abbrev pub invariant-loop-i : goal.invariant-loop-i
invariant-loop-i g l = All (λ tap. g.T.Timed.moment_of tap < moment_limit) (take l.i l.taps)
