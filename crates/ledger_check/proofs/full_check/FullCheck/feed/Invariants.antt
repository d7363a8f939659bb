use Rattle.std.proofs.Common.{◌≡◌, List, ℕ, ◌++◌, length, string_bytes}
use Rattle.tap_views.specs.declared.encoder.TapFields.{TapFields}
use Rattle.ledger_check.specs.FullCheckStates.{HasFullyChecked}
use Rattle.ledger_check.proofs.full_check.FullCheck.feed.Given as goal

-- a front of the piece was read, and this was reported of its lines
abbrev pub invariant-loop-line : goal.invariant-loop-line
invariant-loop-line l = record {
  consumed : List ℕ;
  whole : l.piece ≡ consumed ++ l.rest;
  fed : (text written : List ℕ) (valid : List TapFields)
      → HasFullyChecked l.table l.fn.self l.subtracts l.fn.full text written valid
      → (more : List ℕ) × (string_bytes l.reported ≡ string_bytes l.fn.reported ++ more)
      × HasFullyChecked l.table l.self l.subtracts l.full (text ++ consumed) (written ++ more)
      valid;
}

abbrev pub decreases-loop-line : goal.decreases-loop-line
decreases-loop-line l = length l.rest
