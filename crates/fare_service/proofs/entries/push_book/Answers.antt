use Rattle.std.proofs.Common.{arith}
use Rattle.fare_service.proofs.Collecting.{seen_more}
use Rattle.fare_service.proofs.entries.push_book.Goals as goal

pub loop-position-preserved : goal.loop-position-preserved
loop-position-preserved c =
    seen_more c.args.books.now c.args.list.now.items c.loop-position.list.items _ c.in_ok-spot.spot
    c.args.index c.loop-position.position c.args.book.now
    c.in_ok-push.ensures.items c.loop-position.invariant c.in_ok-spot.ensures.book
    c.in_ok-spot.ensures.position c.requires (omega (arith, c.len-position-end.ensures.len))
