use Rattle.std.proofs.Common.{◌≡◌, ◌<◌, ap, sym, ◌∙◌, subst, arith}
use Rattle.shared_books.proofs.{MarkLists.made_few, PassSteps.meets, PassSteps.settles}
use Rattle.shared_books.proofs.Passing.{knows, pass_joins, joined_of}
use Rattle.shared_books.specs.Passes.{IsJoined}
use Rattle.shared_books.proofs.turns.SharedBook.join.Goals as goal

pub join_seat-requires : goal.join_seat-requires
join_seat-requires c =
    let home : c.pass.inside.seat.table_id ≡ c.self.inside.table.shared.table_id =
    ap (λ d. d.book.home) c.pass.view_is
    ∙ (ap (λ d. d.home) c.requires.belongs ∙ sym (ap (λ d. d.home) c.self.view_is)) in
    let other : c.other.inside.seat.table_id ≡ c.self.inside.table.shared.table_id =
    ap (λ d. d.book.home) c.other.view_is
    ∙ (ap (λ d. d.home) c.requires.other ∙ sym (ap (λ d. d.home) c.self.view_is)) in
    let word : 0 < c.self.inside.table.shared.table_id.words = omega (arith, c.self.invariant.1) in
    let p = c.pass.invariant.free in
    let q = c.other.invariant.free in
    (home, other, q.carries, word, meets _ _ _ _ _ p.unjoined q.unjoined p.met q.met q.turn)

pub load-requires : goal.load-requires
load-requires c =
    let home : c.pass.inside.seat.table_id ≡ c.self.inside.table.shared.table_id =
    ap (λ d. d.book.home) c.pass.view_is
    ∙ (ap (λ d. d.home) c.requires.belongs ∙ sym (ap (λ d. d.home) c.self.view_is)) in
    let word : 0 < c.self.inside.table.shared.table_id.words = omega (arith, c.self.invariant.1) in
    let met = c.join_seat.ensures.2 in (
      c.join_seat.ensures.0
          ∙ home,
      word,
      settles _ _ _ _ (ap (λ me. me.0.unjoined) met)
          (ap (λ me. me.0.turn) met ∙ c.pass.invariant.free.turn),
    )

pub overflow_add-held : goal.overflow_add-held
overflow_add-held c =
    let first = ap (λ d. d.book.first) c.pass.view_is
    ∙ (ap (λ d. d.first) (c.requires.belongs ∙ sym c.requires.other)
    ∙ sym (ap (λ d. d.book.first) c.other.view_is)) in
    let p = pass_joins _ _ _ _ _ _ c.pass.invariant c.other.invariant c.join_seat.ensures.2
    c.load.ensures.2 first in
    let few = made_few c.load.new.seat.me.0.opened.first c.load.new.seat.me.0.marks in
    let held = p.held_is in
    let small = p.small in
    omega arith

pub invariant_of-pass : goal.invariant_of-pass
invariant_of-pass c =
    let first = ap (λ d. d.book.first) c.pass.view_is
    ∙ (ap (λ d. d.first) (c.requires.belongs ∙ sym c.requires.other)
    ∙ sym (ap (λ d. d.book.first) c.other.view_is)) in
    pass_joins _ _ _ _ _ _ c.pass.invariant c.other.invariant c.join_seat.ensures.2 c.load.ensures.2
    first

pub returns : goal.returns
returns c =
    let first = ap (λ d. d.book.first) c.pass.view_is
    ∙ (ap (λ d. d.first) (c.requires.belongs ∙ sym c.requires.other)
    ∙ sym (ap (λ d. d.book.first) c.other.view_is)) in
    let home : c.load.new.seat.table_id ≡ c.pass.inside.seat.table_id =
    c.load.ensures.0 ∙ c.join_seat.ensures.0 in
    let homes : c.other.inside.seat.table_id ≡ c.pass.inside.seat.table_id =
    ap (λ d. d.book.home) c.other.view_is
    ∙ (ap (λ d. d.home) (c.requires.other ∙ sym c.requires.belongs)
    ∙ sym (ap (λ d. d.book.home) c.pass.view_is)) in
    let joined = joined_of c.pass.inside.seat.table_id c.pass.inside.seat.me c.other.inside.seat.me
    c.join_seat.new.seat.me c.load.new.seat.me c.join_seat.ensures.2 c.load.ensures.2 first in
    subst (λ p. IsJoined p c.args.other (knows c.load.new.seat.table_id c.load.new.seat.me))
    c.pass.view_is
    (subst (λ q. IsJoined (knows c.pass.inside.seat.table_id c.pass.inside.seat.me) q
    (knows c.load.new.seat.table_id c.load.new.seat.me))
    (ap (λ h. knows h c.other.inside.seat.me) (sym homes) ∙ c.other.view_is)
    (subst (λ h. IsJoined (knows c.pass.inside.seat.table_id c.pass.inside.seat.me)
    (knows c.pass.inside.seat.table_id c.other.inside.seat.me) (knows h c.load.new.seat.me))
    (sym home) joined))
