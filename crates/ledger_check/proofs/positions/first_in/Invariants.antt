use Rattle.std.proofs.Common.{◌≡◌, ℕ, ◌<◌, ◌≤◌, true}
use Rattle.ledger_check.specs.Positions.{at_position, named_of}
use Rattle.ledger_check.proofs.positions.first_in.Given as goal

-- the places before were named
abbrev pub invariant-loop-index : goal.invariant-loop-index
invariant-loop-index l = (other : ℕ) → 0 < other → other ≤ l.index
    → named_of (at_position l.placed other) ≡ true
