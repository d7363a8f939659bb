use Rattle.std.proofs.Common.{arith, length, ap}
use Rattle.shard_book.specs.Book.{Book}
use Rattle.fare_service.proofs.AddingLemmas.{entries_more}
use Rattle.fare_service.proofs.service.worker_totals.entries_in.Goals as goal

pub loop-book-preserved : goal.loop-book-preserved
loop-book-preserved c =
    let more = entries_more c.args.books.now c.loop-book.book-index c.book-item.result
    c.loop-book-test.true in
    let is = ap (λ (b : Book). length b.entries) c.book-item.is in (
      omega (arith, c.loop-book.invariant.0, c.len.ensures.len, more, is),
      omega (arith, c.loop-book.invariant.1),
    )
