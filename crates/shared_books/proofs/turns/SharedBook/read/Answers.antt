use Rattle.std.proofs.Common.{◌≡◌, ◌∙◌, [], arith, ap, subst}
use Rattle.std.proofs.lemmas.Result.{err_from_is_err_and}
use Rattle.shard_book.specs.Book.{Book}
use Rattle.histories.specs.Statement.{IsStatement}
use Rattle.shared_books.proofs.Passing.{full_reported, full_pass_is, brings, entries_now, legal_now}
use Rattle.shared_books.proofs.Passing.{nothing_more, legal_out, seen_out, table_out, pass_visits}
use Rattle.shared_books.proofs.Passing.{visit_reported, held_small}
use Rattle.shared_books.proofs.turns.SharedBook.read.Goals as goal

pub invariant_of-pass : goal.invariant_of-pass
invariant_of-pass g c = full_pass_is _ _ _ c.pass.invariant c.in_err-number.ensures.full

pub returns-in_err-number-clause-fault : goal.returns-in_err-number-clause-fault
returns-in_err-number-clause-fault g c =
    let p = err_from_is_err_and c.from_residual.result c.from_residual.ensures.1 in
    let t = full_reported _ _ _ _ _ c.pass.view_is c.take.ensures.same
    c.in_err-number.ensures.full in
    rw (p.1, p.2) (t.0, t.1)

pub give-requires-clause-brings : goal.give-requires-clause-brings
give-requires-clause-brings g c =
    let taken = c.in_ok-number.ensures.taken in
    brings _ _ _ _ _ [] taken (nothing_more _) (legal_out _ _ _ _ taken)

pub overflow_add-held : goal.overflow_add-held
overflow_add-held g c = let few = held_small _ _ c.pass.invariant in omega arith

pub invariant_of-pass-in_err-statement : goal.invariant_of-pass-in_err-statement
invariant_of-pass-in_err-statement g c =
    let taken = c.in_ok-number.ensures.taken in
    pass_visits _ _ _ _ _ _ [] c.pass.invariant taken
    (c.give.ensures.given [] (entries_now _ _ _ _ _ _ taken (nothing_more _)))

pub returns-in_err-statement-clause-fault : goal.returns-in_err-statement-clause-fault
returns-in_err-statement-clause-fault g c =
    let p = err_from_is_err_and c.from_residual-in_err-statement.result
    c.from_residual-in_err-statement.ensures.1 in
    let taken = c.in_ok-number.ensures.taken in
    let given = c.give.ensures.given [] (entries_now _ _ _ _ _ _ taken (nothing_more _)) in
    rw (p.1, p.2) (
      c.in_ok-number.number,
      visit_reported _ _ _ _ _ _ _ _ [] c.pass.view_is (c.give.ensures.same ∙ c.take.ensures.same)
          taken
          given (legal_now _ _ _ _ _ _ taken (nothing_more _) (legal_out _ _ _ _ taken)),
    )

pub invariant_of-pass-2 : goal.invariant_of-pass-2
invariant_of-pass-2 g c =
    let taken = c.in_ok-number.ensures.taken in
    pass_visits _ _ _ _ _ _ [] c.pass.invariant taken
    (c.give.ensures.given [] (entries_now _ _ _ _ _ _ taken (nothing_more _)))

pub returns-clause-read : goal.returns-clause-read
returns-clause-read g c =
    let taken = c.in_ok-number.ensures.taken in
    let given = c.give.ensures.given [] (entries_now _ _ _ _ _ _ taken (nothing_more _)) in
    let table : c.in_ok-number.book.value.table ≡ c.args.self.now.table =
    table_out _ _ _ _ _ _ c.pass.view_is taken ∙ ap (λ o. o.table) c.requires.belongs in
    let seen = seen_out c.give.new.seat.table_id _ _ _ _ _ taken given in (
      visit_reported _ _ _ _ _ _ _ _ [] c.pass.view_is (c.give.ensures.same ∙ c.take.ensures.same)
          taken
          given (legal_now _ _ _ _ _ _ taken (nothing_more _) (legal_out _ _ _ _ taken)),
      subst (λ es. IsStatement c.args.self.now.table es c.args.token.now c.in_ok-statement.field-0)
          seen
          (subst (λ t. IsStatement t c.in_ok-number.book.value.entries c.args.token.now
          c.in_ok-statement.field-0) table
          (subst (λ (b : Book). IsStatement b.table b.entries c.args.token.now
          c.in_ok-statement.field-0) c.deref.ensures c.in_ok-statement.ensures)),
    )
