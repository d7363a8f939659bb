use Rattle.std.proofs.Common.{arith}
use Rattle.tap_views.proofs.runs.Runs.new.Goals as goal

pub invariant_of-result : goal.invariant_of-result
invariant_of-result c = (omega arith, omega arith)

pub returns : goal.returns
returns c = omega arith
