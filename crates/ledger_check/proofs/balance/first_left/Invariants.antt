use Rattle.std.proofs.Common.{◌≡◌, ℕ, ◌++◌, List, All}
use Rattle.tap_views.specs.declared.encoder.TapFields.{TapFields}
use Rattle.ledger_check.proofs.balance.first_left.Given as goal

-- nothing is left of the taps before these
abbrev pub invariant-loop-tap : goal.invariant-loop-tap
invariant-loop-tap l = record {
  may : (goal.iterator-loop-tap).can_next l.tap-iterator;
  ends : (goal.iterator-loop-tap).is_finite l.tap-iterator;
  zero : (done : List (TapFields × ℕ)) × (l.left.entries ≡ done ++ l.tap-iterator)
      × All (λ (e : TapFields × ℕ). e.1 ≡ 0) done;
}
