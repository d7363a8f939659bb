use Rattle.std.proofs.Common.{◌≡◌, ◌≤◌, [], IfSome, length}
use Rattle.sorted_taps.specs.Reading.{AreTapsBetween, window_bytes}
use Rattle.sorted_taps.proofs.reader.TapReader.refill.Given as goal

abbrev pub invariant-loop : goal.invariant-loop
invariant-loop g l = record {
  room : window_bytes ≤ length l.window;
  first : l.self.next ≡ 0;
  number : l.self.passed ≡ l.fn.self.passed;
  between : IfSome (g.F.Placed.bytes l.file)
      (λ all. AreTapsBetween all l.fn.self.offset l.self.offset []);
}
