use Rattle.std.proofs.Common.{◌≡◌, List, [], ◌++◌, map}
use Rattle.ledger_check.specs.Balances.{IsBalance}
use Rattle.tap_views.specs.{Encoding.fields_of, declared.encoder.TapFields.TapFields}
use Rattle.ledger_check.proofs.balance.Balance.add_batch.Given as goal

abbrev pub invariant-loop-tap : goal.invariant-loop-tap
invariant-loop-tap l = record {
  may : (goal.iterator-loop-tap).can_next l.tap-iterator;
  ends : (goal.iterator-loop-tap).is_finite l.tap-iterator;
  all : l.yielded ++ l.tap-iterator ≡ l.fn.batch;
  added : (valid : List TapFields) → IsBalance l.fn.self valid []
      → IsBalance l.self (valid ++ map fields_of l.yielded) [];
}
