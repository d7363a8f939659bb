use Rattle.std.proofs.Common.{◌≡◌, ◌≤◌, All, length, map, replicate, string_bytes}
use Rattle.toml.specs.View.{members_view}
use Rattle.fare_table.specs.Classes.{ceilings_from}
use Rattle.fare_table.proofs.read.classes.ceilings_from.Given as goal

abbrev pub invariant-loop-name : goal.invariant-loop-name
invariant-loop-name l = record {
  -- the ceilings of the whole are those so far, with what the members that are left name
  same : ceilings_from (map string_bytes l.caps) (replicate 3 100_000_000)
      (members_view l.members.entries)
      ≡ ceilings_from (map string_bytes l.caps) l.ceilings (members_view l.name-iterator);
  bounds : All (λ cents. cents ≤ 100_000_000) l.ceilings;
  long : length l.ceilings ≡ 3;
}
