use Rattle.std.proofs.Common.{◌≡◌, All, None, take}
use Rattle.sorted_taps.specs.{Positions.first_position, declared.positions.FileSpan.FileSpan}
use Rattle.settled_bills.proofs.part.Part.is_whole.Given as goal

abbrev pub invariant-loop-span : goal.invariant-loop-span
invariant-loop-span l = record {
  begins : All (λ (span : FileSpan). span.from ≡ first_position)
      (take l.span-index l.self.spans.items);
  ends : All (λ (span : FileSpan). span.to ≡ None) (take l.span-index l.self.spans.items);
}
