use Rattle.std.proofs.Common.{◌≡◌, ◌++◌, List, ℕ, string_bytes, take}
use Rattle.fare_texts.specs.StatementText.{AreEntryLines}
use Rattle.fare_texts.proofs.statement.write_lines.Given as goal

abbrev pub invariant-loop-position : goal.invariant-loop-position
invariant-loop-position l =
    (written : List ℕ) × AreEntryLines l.table (take l.position l.lines) written
    × (string_bytes l.text ≡ string_bytes l.fn.text ++ written)
