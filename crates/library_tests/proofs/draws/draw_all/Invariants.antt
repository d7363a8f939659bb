use Rattle.std.proofs.Common.{◌≡◌, ◌-◌}
use Rattle.library_tests.proofs.draws.draw_all.Given as goal

abbrev pub invariant-loop : goal.invariant-loop
invariant-loop l = l.drawer.drawn_from ≡ l.draw

abbrev pub decreases-loop : goal.decreases-loop
decreases-loop l = l.draw.numbers - l.drawer.seen
