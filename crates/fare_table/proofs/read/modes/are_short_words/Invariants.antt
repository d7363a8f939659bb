use Rattle.std.proofs.Common.{◌≡◌, drop, map, string_bytes}
use Rattle.std.specs.List.{list_all}
use Rattle.fare_table.specs.Modes.{is_mode_name}
use Rattle.fare_table.proofs.read.modes.are_short_words.Given as goal

-- what is left decides
abbrev pub invariant-loop-name : goal.invariant-loop-name
invariant-loop-name l = list_all is_mode_name (map string_bytes l.names)
    ≡ list_all is_mode_name (map string_bytes (drop l.name-index l.names))
