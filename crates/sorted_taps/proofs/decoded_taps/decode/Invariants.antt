use Rattle.std.proofs.Common.{◌≤◌, length}
use Rattle.sorted_taps.specs.Reading.{AreFrontTaps}
use Rattle.sorted_taps.proofs.decoded_taps.decode.Given as goal

abbrev pub invariant-loop-taps : goal.invariant-loop-taps
invariant-loop-taps l = record {
  front : AreFrontTaps l.bytes l.left l.taps.items;
  size : length l.left ≤ length l.bytes;
}

abbrev pub decreases-loop-taps : goal.decreases-loop-taps
decreases-loop-taps l = length l.left
