use Rattle.std.proofs.Common.{ℕ, ◌≡◌, List, ◌∷◌, [], ◌++◌, length, sym, ◌∙◌, ap, subst, arith}
use Rattle.std.proofs.Common.{append_assoc, length-append}
use Rattle.fare_service.proofs.{JoinLemmas.at_end, PositionLemmas.position_more}
use Rattle.fare_service.specs.inside.Closing.{AreUnseen, IsUnseen}
use Rattle.shard_book.specs.Book.{Book}
use Rattle.shared_books.specs.Passes.{SharedBookView}
use Rattle.std.specs.{Prelude.slice_get, Prelude.Some, Vec.Iter.into_iter_items}
use Rattle.fare_service.proofs.service.gathering.close_unseen.Goals as goal

pub loop-book-preserved : goal.loop-book-preserved
loop-book-preserved c =
    let done = c.in_default.ensures.ok in
    let steps = c.in-Some.ensures.steps in
    let rest = into_iter_items c.next.new.self in
    let books : c.loop-book.yielded ++ c.in-Some.book ∷ rest ≡ c.args.books.items =
    ap (λ bs. c.loop-book.yielded ++ bs) (sym steps.0) ∙ c.loop-book.invariant.left in
    let A : List SharedBookView → Type 0 =
    λ bs. slice_get bs (length c.loop-book.closed.items) ≡ Some c.in-Some.book in
    let N : ℕ → Type 0 =
    λ n. slice_get (c.loop-book.yielded ++ c.in-Some.book ∷ rest) n ≡ Some c.in-Some.book in
    let here : IsUnseen c.args.books.items (length c.loop-book.closed.items) done.book =
    record {
      shared = c.in-Some.book;
      at =
          subst A books
          (subst N (sym c.loop-book.invariant.number)
          (at_end c.loop-book.yielded c.in-Some.book rest));
      none =
          rw done.is at c.close_unseen.ensures.ok;
      legal = done.legal;
      limits = done.limits;
    } in
    let P : List Book → Type 0 = AreUnseen c.args.books.items in
    record {
      may = tt;
      ends = tt;
      left = append_assoc c.loop-book.yielded (c.in-Some.book ∷ []) rest ∙ books;
      left_len = omega (arith, steps.1, c.loop-book.invariant.left_len, ap length steps.0);
      shard = omega (
        arith,
        c.loop-book.invariant.shard,
        length-append c.loop-book.yielded (c.in-Some.book ∷ []),
      );
      number = omega (
        arith,
        ap length done.appended,
        length-append c.loop-book.closed.items (done.book ∷ []),
        c.loop-book.invariant.number,
        length-append c.loop-book.yielded (c.in-Some.book ∷ []),
      );
      room = omega (arith, c.push_closed.ensures.capacity, c.loop-book.invariant.room);
      closed = subst P (sym done.appended)
          (position_more (λ i b. IsUnseen c.args.books.items i b) c.loop-book.closed.items done.book
          c.loop-book.invariant.closed here);
    }
