use Rattle.std.proofs.Common.{◌≡◌}
use Rattle.library_tests.proofs.turns.work.Given as goal

abbrev pub invariant-loop : goal.invariant-loop
invariant-loop g l = l.pass.book ≡ l.shared
