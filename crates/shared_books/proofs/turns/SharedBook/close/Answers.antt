use Rattle.std.proofs.Common.{◌<◌, subst, arith}
use Rattle.shared_books.proofs.Passing.{whole_slot, made_whole, lacks_claims}
use Rattle.shared_books.proofs.TurnEnds.{closes}
use Rattle.shared_books.specs.{Claims.all_claims, Passes.HasMadeAll}
use Rattle.shared_books.proofs.turns.SharedBook.close.Goals as goal

pub unreachable-requires : goal.unreachable-requires
unreachable-requires c =
    let t = closes _ _ _ _ _ _ _ c.close_with.ensures.values.2 c.taken_from-word.ensures.word
    c.taken_from-word.ensures.slot c.pass.invariant.free.unjoined c.pass.invariant.free.turn
    c.pass.invariant.free.met in
    let is = whole_slot _ _ _ _ _ c.pass.invariant t
    (omega (arith, c.if-held-kept.false, c.self.invariant.0)) in
    let slot = is.1 in
    let none_is = c.in-None.is in
    cc

pub returns-clause-ok : goal.returns-clause-ok
returns-clause-ok c =
    let t = closes _ _ _ _ _ _ _ c.close_with.ensures.values.2 c.taken_from-word.ensures.word
    c.taken_from-word.ensures.slot c.pass.invariant.free.unjoined c.pass.invariant.free.turn
    c.pass.invariant.free.met in
    subst (λ p. HasMadeAll p c.into_inner.result) c.pass.view_is
    (made_whole _ _ _ _ _ _ _ _ c.pass.invariant t
    (omega (arith, c.if-held-kept.false, c.self.invariant.0)) c.in-Some.is c.into_inner.ensures)

pub returns-then-held-kept-clause-claims : goal.returns-then-held-kept-clause-claims
returns-then-held-kept-clause-claims c =
    let t = closes _ _ _ _ _ _ _ c.close_with.ensures.values.2 c.taken_from-word.ensures.word
    c.taken_from-word.ensures.slot c.pass.invariant.free.unjoined c.pass.invariant.free.turn
    c.pass.invariant.free.met in
    subst (λ p. p.claims < all_claims) c.pass.view_is
    (lacks_claims c.pass.inside.seat.table_id _ _ _ _ _ c.pass.invariant t
    (omega (arith, c.if-held-kept.true, c.self.invariant.0)))
