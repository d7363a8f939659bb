use Rattle.std.proofs.Common.{◌≤◌, List, IfSome, length}
use Rattle.sorted_taps.specs.{Readers.IsPositionedIn, Reading.window_bytes}
use Rattle.tap_views.specs.declared.encoder.TapFields.{TapFields}
use Rattle.sorted_taps.proofs.check.check_file.Given as goal

abbrev pub invariant-loop : goal.invariant-loop
invariant-loop g l = record {
  room : window_bytes ≤ length l.window;
  holds : IfSome (g.F.Placed.bytes l.file)
      (λ all. (passed : List TapFields) × IsPositionedIn all 0 passed l.reader);
}
