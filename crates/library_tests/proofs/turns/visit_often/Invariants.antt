use Rattle.std.proofs.Common.{◌≡◌}
use Rattle.library_tests.proofs.turns.visit_often.Given as goal

abbrev pub invariant-loop-i : goal.invariant-loop-i
invariant-loop-i g l = l.pass.book ≡ l.shared
