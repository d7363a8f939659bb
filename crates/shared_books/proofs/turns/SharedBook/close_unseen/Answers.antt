use Rattle.std.proofs.Common.{◌≡◌, [], ap, sym, ◌∙◌, arith, unwrap_or}
use Rattle.shared_books.specs.Passes.{book_of}
use Rattle.shared_books.proofs.TurnEnds.{whole_unseen}
use Rattle.shared_books.proofs.turns.SharedBook.close_unseen.Goals as goal

pub returns-clause-ok : goal.returns-clause-ok
returns-clause-ok c =
    let whole = whole_unseen _ _ _ _ _ c.close.ensures.values.2 c.taken_from-word.ensures.word
    c.taken_from-word.ensures.slot (omega (arith, c.if-kept-gt0.false, c.self.invariant.0)) in
    let same : c.in-Some.book ≡ whole.0 =
    ap (λ o. unwrap_or o c.in-Some.book) (sym c.in-Some.is ∙ whole.1) in
    c.into_inner.ensures
    ∙ (ap (λ b. b.value) same ∙ (whole.2 ∙ ap (λ o. book_of o []) c.self.view_is))
