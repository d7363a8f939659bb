use Rattle.std.proofs.Common.{◌≡◌, length, drop}
use Rattle.fare_service.specs.inside.Joining.{with_done}
use Rattle.fare_service.proofs.service.gathering.set_ends.Given as goal

abbrev pub invariant-loop-one : goal.invariant-loop-one
invariant-loop-one l = record {
  ends : with_done l.ends.items (drop l.one-index l.done) ≡ with_done l.fn.ends.items l.done;
  number : length l.ends.items ≡ length l.fn.ends.items;
}
