use Rattle.std.proofs.Common.{◌≡◌, length}
use Rattle.tap_views.proofs.runs.Runs.new.Given as goal

abbrev pub invariant-loop : goal.invariant-loop
invariant-loop l = length l.lists.items ≡ l.counter
