use Rattle.std.proofs.Common.{◌≡◌, drop, false, length, map, replicate, string_bytes}
use Rattle.toml.specs.View.{items_view}
use Rattle.fare_table.specs.Caps.{counts_from}
use Rattle.fare_table.proofs.read.caps.counts_from.Given as goal

abbrev pub invariant-loop-value : goal.invariant-loop-value
invariant-loop-value l = record {
  -- the modes of the whole are those so far, with what the items that are left name
  same : counts_from (map string_bytes l.modes) (replicate 32 false) (items_view l.texts.items)
      ≡ counts_from (map string_bytes l.modes) l.counts
      (items_view (drop l.value-index l.texts.items));
  long : length l.counts ≡ 32;
}
