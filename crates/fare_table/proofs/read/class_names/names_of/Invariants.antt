use Rattle.std.proofs.Common.{◌≡◌, ◌+◌, ◌++◌, length, map, string_bytes}
use Rattle.fare_table.specs.{Classes.count_of, Members.names_in}
use Rattle.toml.specs.View.{members_view}
use Rattle.fare_table.proofs.read.class_names.names_of.Given as goal

abbrev pub invariant-loop-name : goal.invariant-loop-name
invariant-loop-name l = record {
  -- the names of the whole are those copied and those of what is left
  names : names_in (members_view l.classes.entries)
      ≡ map string_bytes l.names.items ++ names_in (members_view l.name-iterator);
  count : count_of (members_view l.classes.entries)
      ≡ length l.names.items + count_of (members_view l.name-iterator);
}
