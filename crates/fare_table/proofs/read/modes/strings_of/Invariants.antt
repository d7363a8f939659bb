use Rattle.std.proofs.Common.{◌≡◌, [], drop, map, string_bytes}
use Rattle.toml.specs.View.{items_view}
use Rattle.fare_table.specs.Modes.{strings_from}
use Rattle.fare_table.proofs.read.modes.strings_of.Given as goal

-- the strings of the whole are those found and those of what is left
abbrev pub invariant-loop-value : goal.invariant-loop-value
invariant-loop-value l = strings_from [] (items_view l.array.items)
    ≡ strings_from (map string_bytes l.names.items) (items_view (drop l.value-index l.array.items))
