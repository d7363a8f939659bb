use Rattle.std.proofs.Common.{◌++◌}
use Rattle.fare_program.specs.inside.Listing.{Lists}
use Rattle.std.specs.Option.{option_copied}
use Rattle.tap_views.specs.Files.{IsReadAs, taps_of_batches}
use Rattle.fare_program.proofs.lister.Lister.list_upload.Given as goal

abbrev pub invariant-loop-batch : goal.invariant-loop-batch
invariant-loop-batch l = record {
  may : (goal.iterator-loop-batch).can_next l.valid;
  ends : (goal.iterator-loop-batch).is_finite l.valid;
  read : IsReadAs l.file (l.yielded ++ l.valid.batches) l.valid.fault;
  lists : Lists (option_copied l.table) l.fn.self l.self (taps_of_batches l.yielded);
}
