use Rattle.std.proofs.Common.{◌≡◌, ◌+◌, drop, map, string_bytes}
use Rattle.std.specs.List.{position_or_len}
use Rattle.tariffs.specs.Names.{same_name}
use Rattle.fare_table.proofs.read.caps.cap_named.Given as goal

-- the first cap of the name is the first one among those that are left
abbrev pub invariant-loop-position : goal.invariant-loop-position
invariant-loop-position l = position_or_len (same_name l.name) (map string_bytes l.caps)
    ≡ l.position + position_or_len (same_name l.name) (map string_bytes (drop l.position l.caps))
