use Rattle.std.proofs.Common.{◌≡◌, ◌+◌, ◌++◌, ◌∷◌, length}
use Rattle.std.specs.Vec.Iter.{into_iter_items, into_iter_len}
use Rattle.fare_service.specs.inside.Joining.{IsJoinedOf, with_runs}
use Rattle.fare_service.proofs.service.gathering.join_shares.Given as goal

abbrev pub invariant-loop-share : goal.invariant-loop-share
invariant-loop-share l = record {
  may : (goal.iterator-loop-share).can_next l.share-iterator;
  ends : (goal.iterator-loop-share).is_finite l.share-iterator;
  left : l.yielded ++ into_iter_items l.share-iterator ≡ l.fn.others.items;
  left_len : into_iter_len l.share-iterator ≡ length (into_iter_items l.share-iterator);
  joined : IsJoinedOf l.draw l.books (length l.fn.others.items + 1) (l.fn.first ∷ l.yielded)
      l.drawer l.passes.items;
  calls : l.calls.run ≡ with_runs l.fn.calls.run (l.fn.first ∷ l.yielded);
}
