use Rattle.std.proofs.Common.{◌≡◌}
use Rattle.library_tests.proofs.turns.jobs_of.Given as goal

abbrev pub invariant-loop : goal.invariant-loop
invariant-loop l = l.pass.book ≡ l.shared
