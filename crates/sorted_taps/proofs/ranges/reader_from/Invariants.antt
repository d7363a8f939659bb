use Rattle.std.proofs.Common.{◌≤◌, List, IfSome, length}
use Rattle.sorted_taps.specs.{Readers.IsPositionedIn, Reading.window_bytes}
use Rattle.tap_views.specs.declared.encoder.TapFields.{TapFields}
use Rattle.sorted_taps.proofs.ranges.reader_from.Given as goal

-- the reader has passed some taps since the offset
abbrev pub invariant-loop : goal.invariant-loop
invariant-loop g l = record {
  room : window_bytes ≤ length l.window;
  holds : IfSome (g.F.Placed.bytes l.file)
      (λ all. (passed : List TapFields) × IsPositionedIn all l.offset passed l.reader);
}
