use Rattle.std.proofs.Common.{◌≡◌, ◌∙◌, ap, refl, arith}
use Rattle.std.proofs.lemmas.Result.{err_from_is_err_and}
use Rattle.shard_book.specs.Book.{with_entries}
use Rattle.shared_books.proofs.Passing.{full_reported, full_pass_is, brings, entries_now, legal_now}
use Rattle.shared_books.proofs.Passing.{pass_visits, visit_reported, held_small}
use Rattle.shared_books.proofs.turns.SharedBook.visit.Goals as goal

pub invariant_of-pass : goal.invariant_of-pass
invariant_of-pass g c = full_pass_is _ _ _ c.pass.invariant c.in_err-number.ensures.full

pub returns-in_err-number-clause-full : goal.returns-in_err-number-clause-full
returns-in_err-number-clause-full g c =
    let p = err_from_is_err_and c.from_residual.result c.from_residual.ensures.1 in
    let t = full_reported _ _ _ _ _ c.pass.view_is c.take.ensures.same
    c.in_err-number.ensures.full in
    rw p.1 (t.0, t.1, refl)

pub give-requires-clause-brings : goal.give-requires-clause-brings
give-requires-clause-brings g c =
    let posted = c.post_run-how.ensures.posts in
    let appended : c.post_run-how.new.self ≡ with_entries c.in_ok-number.book.value posted.visit =
    posted.appended ∙ ap (λ b. with_entries b posted.visit) c.deref_mut.ensures.value in
    brings _ _ _ _ _ posted.visit c.in_ok-number.ensures.taken appended c.post_run-how.ensures.legal

pub overflow_add-held : goal.overflow_add-held
overflow_add-held g c = let few = held_small _ _ c.pass.invariant in omega arith

pub invariant_of-pass-2 : goal.invariant_of-pass-2
invariant_of-pass-2 g c =
    let posted = c.post_run-how.ensures.posts in
    let appended : c.post_run-how.new.self ≡ with_entries c.in_ok-number.book.value posted.visit =
    posted.appended ∙ ap (λ b. with_entries b posted.visit) c.deref_mut.ensures.value in
    let taken = c.in_ok-number.ensures.taken in
    pass_visits _ _ _ _ _ _ posted.visit c.pass.invariant taken
    (c.give.ensures.given posted.visit (entries_now _ _ _ _ _ _ taken appended))

pub returns-clause-visit : goal.returns-clause-visit
returns-clause-visit g c =
    let posted = c.post_run-how.ensures.posts in
    let appended : c.post_run-how.new.self ≡ with_entries c.in_ok-number.book.value posted.visit =
    posted.appended ∙ ap (λ b. with_entries b posted.visit) c.deref_mut.ensures.value in
    let taken = c.in_ok-number.ensures.taken in
    record {
      visit = posted.visit;
      holds = visit_reported _ _ _ _ _ _ _ _ posted.visit c.pass.view_is
          (c.give.ensures.same ∙ c.take.ensures.same) taken
          (c.give.ensures.given posted.visit (entries_now _ _ _ _ _ _ taken appended))
          (legal_now _ _ _ _ _ _ taken appended c.post_run-how.ensures.legal);
      of_run = posted.of_run;
      items = posted.items;
      spare = posted.spare;
    }
