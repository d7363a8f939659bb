use Rattle.std.proofs.Common.{◌≤◌}
use Rattle.world.specs.Run.{nothing_yet}
use Rattle.settlement.specs.inside.Taken.{AreTaken}
use Rattle.settlement.proofs.reading.read_run.Given as goal

abbrev pub invariant-loop-number : goal.invariant-loop-number
invariant-loop-number g l = record {
  order : l.number ≤ l.fn.end;
  run : AreTaken (g.U.Uploads.origin l.uploads) l.fn.start l.number
      (λ taps. g.C.Choice.keeps l.choice taps l.kept) l.ends.items nothing_yet l.calls.run;
}
