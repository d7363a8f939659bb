use Rattle.std.proofs.Common.{◌≡◌, ℕ, length, slice_get, Some, refl, subst, sym, arith}
use Rattle.std.proofs.lemmas.Option.{slice_get_read}
use Rattle.fare_service.proofs.Collecting.{seen_books}
use Rattle.fare_service.proofs.entries.all_of.Goals as goal

pub push_book-requires : goal.push_book-requires
push_book-requires c =
    subst (λ (i : ℕ). slice_get c.args.books.now i ≡ Some c.book-item.result)
    (sym c.loop-book.invariant.0)
    (slice_get_read c.args.books.now (length c.args.books.now) c.loop-book.book-index
    c.book-item.result refl c.loop-book-test.true c.book-item.is)

pub loop-book-preserved : goal.loop-book-preserved
loop-book-preserved c = (
  omega arith,
  seen_books c.args.books.now c.loop-book.list.items _ c.loop-book.book-index c.book-item.result
      (slice_get_read c.args.books.now (length c.args.books.now) c.loop-book.book-index
      c.book-item.result refl c.loop-book-test.true c.book-item.is)
      c.loop-book.invariant.1 c.in_ok-push_book.ensures,
)
