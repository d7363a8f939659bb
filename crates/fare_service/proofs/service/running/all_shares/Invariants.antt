use Rattle.std.proofs.Common.{◌≡◌, length, map, ◌++◌, Ok}
use Rattle.std.specs.Vec.Iter.{into_iter_items, into_iter_len}
use Rattle.fare_service.proofs.service.running.all_shares.Given as goal

abbrev pub invariant-loop-answer : goal.invariant-loop-answer
invariant-loop-answer l = record {
  left : l.yielded ++ into_iter_items l.answer-iterator ≡ l.fn.answers.items;
  left_len : into_iter_len l.answer-iterator ≡ length (into_iter_items l.answer-iterator);
  shares : l.yielded ≡ map Ok l.shares.items;
}
