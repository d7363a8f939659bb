use Rattle.std.proofs.Common.{◌≡◌, ◌+◌, [], All, length, map, string_bytes}
use Rattle.toml.specs.View.{members_view}
use Rattle.fare_table.specs.Classes.{classes_from, count_of}
use Rattle.tariffs.specs.Terms.{IsBoundedClass}
use Rattle.fare_table.proofs.read.classes.classes_from.Given as goal

abbrev pub invariant-loop-name : goal.invariant-loop-name
invariant-loop-name l = record {
  -- the classes of the whole are those found and those of what is left
  same : classes_from (map string_bytes l.modes) (map string_bytes l.caps) []
      (members_view l.classes.entries)
      ≡ classes_from (map string_bytes l.modes) (map string_bytes l.caps) l.found.items
      (members_view l._name-iterator);
  bounds : All IsBoundedClass l.found.items;
  count : count_of (members_view l.classes.entries)
      ≡ length l.found.items + count_of (members_view l._name-iterator);
}
