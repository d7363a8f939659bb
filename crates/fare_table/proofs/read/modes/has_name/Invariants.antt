use Rattle.std.proofs.Common.{◌≡◌, drop, map, string_bytes}
use Rattle.std.specs.List.{list_any}
use Rattle.tariffs.specs.Names.{same_name}
use Rattle.fare_table.proofs.read.modes.has_name.Given as goal

-- what is left decides
abbrev pub invariant-loop-other : goal.invariant-loop-other
invariant-loop-other l = list_any (same_name l.name) (map string_bytes l.names)
    ≡ list_any (same_name l.name) (map string_bytes (drop l.other-index l.names))
