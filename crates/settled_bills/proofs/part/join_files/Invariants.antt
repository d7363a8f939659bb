use Rattle.std.proofs.Common.{◌≡◌, Some, map, take}
use Rattle.settled_bills.specs.{Parts.added, inside.Charged.joined_spans}
use Rattle.sorted_taps.specs.declared.positions.FileSpan.{FileSpan}
use Rattle.settled_bills.proofs.part.join_files.Given as goal

abbrev pub invariant-loop-at : goal.invariant-loop-at
invariant-loop-at l = record {
  meet : map (λ (span : FileSpan). span.to) (take l.at l.spans)
      ≡ map (λ (span : FileSpan). Some span.from) (take l.at l.others);
  joined : l.joined.items ≡ joined_spans (take l.at l.spans) (take l.at l.others);
  sums : l.sums.items ≡ added (take l.at l.numbers) (take l.at l.counts);
}
