use Rattle.std.proofs.Common.{◌≡◌, [], true, drop, length, map, string_bytes}
use Rattle.toml.specs.View.{items_view}
use Rattle.tariffs.specs.Validators.{are_disjoint, are_modes_below}
use Rattle.fare_table.specs.Validators.{ranges_from}
use Rattle.fare_table.proofs.read.validators.ranges_from.Given as goal

abbrev pub invariant-loop-value : goal.invariant-loop-value
invariant-loop-value l = record {
  -- the ranges of the whole are those found and those of what is left
  same : ranges_from (map string_bytes l.modes) [] (items_view l.array.items)
      ≡ ranges_from (map string_bytes l.modes) l.ranges.entries
      (items_view (drop l.value-index l.array.items));
  apart : are_disjoint l.ranges.entries ≡ true;
  known : are_modes_below (length l.modes) l.ranges.entries ≡ true;
}
