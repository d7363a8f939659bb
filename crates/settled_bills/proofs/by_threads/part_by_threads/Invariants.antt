use Rattle.std.proofs.Common.{map}
use Rattle.settled_bills.specs.inside.Charged.{AreParts, IsPart}
use Rattle.settled_bills.proofs.by_threads.part_by_threads.Given as goal

abbrev pub invariant-loop : goal.invariant-loop
invariant-loop g l = record {
  parts : AreParts l.table (map g.F.Placed.bytes l.files) l.parts.items;
  joined : IsPart l.table (map g.F.Placed.bytes l.files) l.whole;
}
