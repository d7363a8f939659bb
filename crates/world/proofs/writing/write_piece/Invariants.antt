use Rattle.std.proofs.Common.{◌≡◌, ◌≤◌, length, take}
use Rattle.world.specs.Run.{with_written}
use Rattle.world.proofs.writing.write_piece.Given as goal

abbrev pub invariant-loop : goal.invariant-loop
invariant-loop g l =
    (l.at ≤ length l.piece)
    × (l.trace.run ≡ with_written l.initial.trace.run (take l.at l.piece))
