use Rattle.std.proofs.Common.{◌≡◌, All, length, map, ◌++◌}
use Rattle.std.specs.Vec.Iter.{into_iter_items, into_iter_len}
use Rattle.fare_service.proofs.service.Service.work_in.Given as goal

abbrev pub invariant-loop-share : goal.invariant-loop-share
invariant-loop-share g l = record {
  left : l.yielded ++ into_iter_items l.share-iterator ≡ l.fn.shares.items;
  left_len : into_iter_len l.share-iterator ≡ length (into_iter_items l.share-iterator);
  held : All (λ h. h.promise.service.now ≡ l.self) l.threads.items;
  began : map (λ h. h.promise.began.value) l.threads.items ≡ l.yielded;
  number : length l.threads.items ≡ length l.yielded;
}
