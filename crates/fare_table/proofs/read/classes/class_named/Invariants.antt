use Rattle.std.proofs.Common.{◌≡◌, ◌+◌, option_map}
use Rattle.toml.specs.View.{members_view}
use Rattle.fare_table.specs.Classes.{count_of, position_of}
use Rattle.fare_table.proofs.read.classes.class_named.Given as goal

abbrev pub invariant-loop-key : goal.invariant-loop-key
invariant-loop-key l = record {
  -- the class is found among those that are left, behind those that were passed
  same : position_of l.name (members_view l.classes.entries)
      ≡ option_map (λ n. l.position + n) (position_of l.name (members_view l.key-iterator));
  count : count_of (members_view l.classes.entries)
      ≡ l.position + count_of (members_view l.key-iterator);
}
