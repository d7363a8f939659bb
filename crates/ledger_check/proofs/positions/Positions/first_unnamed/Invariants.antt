use Rattle.std.proofs.Common.{ℕ, ◌<◌}
use Rattle.ledger_check.specs.Positions.{IsUnnamed, is_named, uploads_of}
use Rattle.ledger_check.proofs.positions.Positions.first_unnamed.Given as goal

-- in the uploads before all places were named
abbrev pub invariant-loop-number : goal.invariant-loop-number
invariant-loop-number l = (upload position : ℕ) → upload < l.number
    → ¬ (IsUnnamed (uploads_of l.self) (is_named l.self) upload position)
