use Rattle.std.proofs.Common.{◌≡◌, drop, map, string_bytes}
use Rattle.fare_table.specs.Modes.{are_distinct}
use Rattle.fare_table.proofs.read.modes.are_distinct.Given as goal

-- what is left decides
abbrev pub invariant-loop-i : goal.invariant-loop-i
invariant-loop-i l = are_distinct (map string_bytes l.names)
    ≡ are_distinct (map string_bytes (drop l.i l.names))
