use Rattle.std.proofs.Common.{◌≡◌, ◌≤◌, All, length, map, replicate, string_bytes}
use Rattle.toml.specs.View.{members_view}
use Rattle.fare_table.specs.Classes.{fares_from}
use Rattle.fare_table.proofs.read.classes.fares_from.Given as goal

abbrev pub invariant-loop-name : goal.invariant-loop-name
invariant-loop-name l = record {
  -- the fares of the whole are those so far, with what the members that are left name
  same : fares_from (map string_bytes l.modes) (replicate 32 l.fare)
      (members_view l.members.entries)
      ≡ fares_from (map string_bytes l.modes) l.fares (members_view l.name-iterator);
  bounds : All (λ cents. cents ≤ 100_000) l.fares;
  long : length l.fares ≡ 32;
}
