use Rattle.std.proofs.Common.{◌≡◌, length}
use Rattle.std.specs.Vec.Iter.{into_iter_items, into_iter_len}
use Rattle.shard_book.proofs.ChunkLemmas.{IsMerging}
use Rattle.shard_book.proofs.sums.by_threads.tallies_by_four.Given as goal

abbrev pub invariant-loop-more : goal.invariant-loop-more
invariant-loop-more g l = record {
  may : (goal.iterator-loop-more g).can_next l.more-iterator;
  ends : (goal.iterator-loop-more g).is_finite l.more-iterator;
  left_len : into_iter_len l.more-iterator ≡ length (into_iter_items l.more-iterator);
  merging : IsMerging l.books l.tallies (into_iter_items l.more-iterator);
}
