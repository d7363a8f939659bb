use Rattle.std.proofs.Common.{arith}
use Rattle.shard_book.proofs.LateLemmas.{late-more}
use Rattle.shard_book.proofs.late.late_taps.Goals as goal

pub loop-counted-preserved : goal.loop-counted-preserved
loop-counted-preserved c =
    late-more c.args.books.now c.loop-counted.counted-index c.loop-counted.count
    c.in_ok-count.count _ c.counted-item.result c.loop-counted.keys.keys c.count_late.new.keys.keys
    (omega arith) c.counted-item.is c.loop-counted.invariant.0 c.loop-counted.invariant.1
    c.in_ok-count.ensures
