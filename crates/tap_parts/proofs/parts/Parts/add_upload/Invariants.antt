use Rattle.std.proofs.Common.{◌≡◌, ◌++◌, length}
use Rattle.tap_views.specs.Files.{IsReadAs, taps_of_batches}
use Rattle.tap_parts.specs.Parts.{AreAddedBy}
use Rattle.tap_parts.proofs.parts.Parts.add_upload.Given as goal

abbrev pub invariant-loop-batch : goal.invariant-loop-batch
invariant-loop-batch g l = record {
  may : (goal.iterator-loop-batch g).can_next l.valid;
  ends : (goal.iterator-loop-batch g).is_finite l.valid;
  read : IsReadAs l.upload (l.yielded ++ l.valid.batches) l.valid.fault;
  added : AreAddedBy (g.P.PartRule.part_of l.rule) (taps_of_batches l.yielded) l.fn.self l.self;
  number : l.taps ≡ length (taps_of_batches l.yielded);
}
