use Rattle.std.proofs.Common.{◌≡◌, ◌++◌, ℕ, List}
use Rattle.ledger_changes.specs.{Given.IsWalked, inside.Readings.HasEnded, inside.Views.sum_in}
use Rattle.recorded_lines.specs.Texts.{Follows}
use Rattle.ledger_changes.proofs.changes.push_changes.Given as goal

abbrev pub invariant-loop : goal.invariant-loop
invariant-loop l = record {
  old_bill : l.old.bill ≡ l.fn.old.bill;
  new_bill : l.new.bill ≡ l.fn.new.bill;
  follow_old : Follows l.fn.old.from l.old.from;
  follow_new : Follows l.fn.new.from l.new.from;
  ended : HasEnded l.fn.old → HasEnded l.fn.new → HasEnded l.old × HasEnded l.new;
  walked : (text : List ℕ) → IsWalked l.fn.is_by_token text l.fn.tally.removed
      (sum_in l.fn.tally.last) l.fn.old l.fn.new
      → IsWalked l.fn.is_by_token (text ++ l.piece.items) l.tally.removed (sum_in l.tally.last)
      l.old l.new;
}
