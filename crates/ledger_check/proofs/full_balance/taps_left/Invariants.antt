use Rattle.std.proofs.Common.{◌≡◌, ℕ, ◌++◌, List}
use Rattle.tap_views.specs.declared.encoder.TapFields.{TapFields}
use Rattle.ledger_check.proofs.Spread.{spread}
use Rattle.ledger_check.proofs.full_balance.taps_left.Given as goal

-- the taps of the entries before these
abbrev pub invariant-loop-tap : goal.invariant-loop-tap
invariant-loop-tap l = record {
  may : (goal.iterator-loop-tap).can_next l.tap-iterator;
  ends : (goal.iterator-loop-tap).is_finite l.tap-iterator;
  spread_is : (done : List (TapFields × ℕ)) × (l.left.entries ≡ done ++ l.tap-iterator)
      × (l.taps.items ≡ spread done);
}
