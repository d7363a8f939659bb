use Rattle.std.proofs.Common.{◌≡◌, ◌++◌}
use Rattle.fare_program.specs.inside.Listing.{Lists}
use Rattle.std.specs.Option.{option_copied}
use Rattle.fare_program.proofs.lister.Lister.list_batch.Given as goal

abbrev pub invariant-loop-tap : goal.invariant-loop-tap
invariant-loop-tap l = record {
  may : (goal.iterator-loop-tap).can_next l.tap-iterator;
  ends : (goal.iterator-loop-tap).is_finite l.tap-iterator;
  all : l.yielded ++ l.tap-iterator ≡ l.fn.batch;
  lists : Lists (option_copied l.table) l.fn.self l.self l.yielded;
}
