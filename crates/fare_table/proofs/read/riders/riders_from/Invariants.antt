use Rattle.std.proofs.Common.{◌≡◌, ◌<◌, [], All}
use Rattle.fare_table.specs.{Classes.count_of, Riders.riders_from}
use Rattle.std.specs.Map.{keys_of, values_of}
use Rattle.tap_views.specs.Token.{Fits}
use Rattle.tariffs.specs.Riders.{by_bytes}
use Rattle.toml.specs.View.{members_view}
use Rattle.fare_table.proofs.read.riders.riders_from.Given as goal

abbrev pub invariant-loop-key : goal.invariant-loop-key
invariant-loop-key l = record {
  -- the riders of the whole are those found and those of what is left
  same : riders_from (members_view l.classes.entries) [] (members_view l.members.entries)
      ≡ riders_from (members_view l.classes.entries) (by_bytes l.riders.entries)
      (members_view l.key-iterator);
  fits : All Fits (keys_of l.riders.entries);
  there : All (λ position. position < count_of (members_view l.classes.entries))
      (values_of (by_bytes l.riders.entries));
}
