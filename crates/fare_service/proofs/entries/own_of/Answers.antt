use Rattle.std.proofs.Common.{sym, ◌∙◌}
use Rattle.fare_service.proofs.Collecting.{own_books}
use Rattle.fare_service.proofs.entries.own_of.Goals as goal
use Rattle.histories.proofs.OwnEntries.{own_none}

pub loop-book-init : goal.loop-book-init
loop-book-init c = c.new-list.ensures.items ∙ sym (own_none c.args.token)

pub loop-book-preserved : goal.loop-book-preserved
loop-book-preserved c =
    own_books c.args.books.now c.loop-book.book-index c.book-item.result c.args.token _ _
    c.loop-book-test.true c.book-item.is c.loop-book.invariant c.in_ok-push_own.ensures
