use Rattle.std.proofs.Common.{List, [], ◌++◌, map}
use Rattle.ledger_check.specs.Balances.{IsBalance}
use Rattle.tap_views.specs.{Encoding.fields_of, Files.IsReadAs, Files.taps_of_batches}
use Rattle.tap_views.specs.declared.encoder.TapFields.{TapFields}
use Rattle.ledger_check.proofs.balance.Balance.add_upload.Given as goal

abbrev pub invariant-loop-batch : goal.invariant-loop-batch
invariant-loop-batch l = record {
  may : (goal.iterator-loop-batch).can_next l.batch-iterator;
  ends : (goal.iterator-loop-batch).is_finite l.batch-iterator;
  read : IsReadAs l.upload (l.yielded ++ l.batch-iterator.batches) l.batch-iterator.fault;
  added : (valid : List TapFields) → IsBalance l.fn.self valid []
      → IsBalance l.self (valid ++ map fields_of (taps_of_batches l.yielded)) [];
}
