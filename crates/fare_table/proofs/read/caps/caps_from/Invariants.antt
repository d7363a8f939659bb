use Rattle.std.proofs.Common.{◌≡◌, ◌+◌, [], All, length, map, string_bytes}
use Rattle.fare_table.specs.{Caps.caps_from, Classes.count_of}
use Rattle.tariffs.specs.WindowSpan.{IsBoundedLength}
use Rattle.toml.specs.View.{members_view}
use Rattle.fare_table.proofs.read.caps.caps_from.Given as goal

abbrev pub invariant-loop-name : goal.invariant-loop-name
invariant-loop-name l = record {
  -- the caps of the whole are those found and those of what is left
  same : caps_from (map string_bytes l.modes) [] (members_view l.tables.entries)
      ≡ caps_from (map string_bytes l.modes) l.found.items (members_view l._name-iterator);
  bounds : All (λ cap. IsBoundedLength cap.length) l.found.items;
  count : count_of (members_view l.tables.entries)
      ≡ length l.found.items + count_of (members_view l._name-iterator);
}
