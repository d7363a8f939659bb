use Rattle.std.proofs.Common.{◌≡◌, length}
use Rattle.std.specs.List.{list_all}
use Rattle.ledger_check.specs.Columns.{is_name_byte}
use Rattle.ledger_check.proofs.columns.are_name_bytes.Given as goal

-- all are so if those are that are left
abbrev pub invariant-loop-first : goal.invariant-loop-first
invariant-loop-first l = list_all is_name_byte l.bytes ≡ list_all is_name_byte l.rest

abbrev pub decreases-loop-first : goal.decreases-loop-first
decreases-loop-first l = length l.rest
