use Rattle.std.proofs.Common.{◌≡◌, ◌++◌, length, map}
use Rattle.settlement.specs.Posted.{only}
use Rattle.tap_views.specs.{Encoding.fields_of, Files.IsReadAs, Files.taps_of_batches}
use Rattle.settlement.proofs.own_taps.TokenChoiceVecTapFields.add.Given as goal

abbrev pub invariant-loop-batch : goal.invariant-loop-batch
invariant-loop-batch l = record {
  may : (goal.iterator-loop-batch).can_next l.valid;
  ends : (goal.iterator-loop-batch).is_finite l.valid;
  read : IsReadAs l.upload (l.yielded ++ l.valid.batches) l.valid.fault;
  added : l.kept.items
      ≡ l.fn.kept.items ++ only l.self (map fields_of (taps_of_batches l.yielded));
  count : l.number ≡ length (taps_of_batches l.yielded);
}
