use Rattle.std.proofs.Common.{◌≡◌, ℕ, List, ◌++◌, length}
use Rattle.settled_bills.specs.Columns.{columns_by, with_columns}
use Rattle.class_names.specs.Names.{class_by}
use Rattle.settled_bills.proofs.columns.put_lines.Given as goal

-- what was put, and what is left to put, is the whole
abbrev pub invariant-loop-byte : goal.invariant-loop-byte
invariant-loop-byte l = (more : List ℕ)
    → l.fn.text.items ++ with_columns (l.lines ++ more) (columns_by (class_by l.names) l.taps)
    ≡ l.text.items ++ with_columns (l.rest ++ more) (columns_by (class_by l.names) l.left)

abbrev pub decreases-loop-byte : goal.decreases-loop-byte
decreases-loop-byte l = length l.rest
