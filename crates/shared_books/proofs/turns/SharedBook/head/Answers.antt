use Rattle.std.proofs.Common.{subst, sym}
use Rattle.shared_books.specs.Passes.{HasSeenMore}
use Rattle.shared_books.proofs.Passing.{knows, pass_looks, later_by_look}
use Rattle.shared_books.proofs.turns.SharedBook.head.Goals as goal

pub invariant_of-pass : goal.invariant_of-pass
invariant_of-pass c = pass_looks _ _ _ _ c.pass.invariant c.look.ensures.seen

pub returns-clause-later : goal.returns-clause-later
returns-clause-later c =
    let later = later_by_look c.pass.inside.seat.table_id _ _ _ c.look.ensures.seen in
    subst (λ p. HasSeenMore p (knows c.look.new.seat.table_id c.look.new.seat.me)) c.pass.view_is
    (subst (λ home. HasSeenMore (knows c.pass.inside.seat.table_id c.pass.inside.seat.me)
    (knows home c.look.new.seat.me)) (sym c.look.ensures.same) later)
