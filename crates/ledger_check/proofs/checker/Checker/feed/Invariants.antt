use Rattle.std.proofs.Common.{◌≡◌, List, ℕ, ◌++◌, length}
use Rattle.tap_views.specs.declared.encoder.TapFields.{TapFields}
use Rattle.ledger_check.specs.FullCheckStates.{IsRightSoFar}
use Rattle.ledger_check.proofs.checker.Checker.feed.Given as goal

-- a front of the piece was read
abbrev pub invariant-loop-line : goal.invariant-loop-line
invariant-loop-line l = record {
  consumed : List ℕ;
  whole : l.piece ≡ consumed ++ l.rest;
  fed : (text : List ℕ) (valid : List TapFields)
      → IsRightSoFar l.table l.fn.self l.fn.balance text valid
      → IsRightSoFar l.table l.self l.balance (text ++ consumed) valid;
}

abbrev pub decreases-loop-line : goal.decreases-loop-line
decreases-loop-line l = length l.rest
