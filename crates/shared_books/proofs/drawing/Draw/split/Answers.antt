use Rattle.std.proofs.Common.{◌≡◌, ◌<◌, ap, sym, ◌∙◌, arith}
use Rattle.shared_books.proofs.{DrawSteps.parts, Held.held_left}
use Rattle.shared_books.proofs.drawing.Draw.split.Goals as goal

pub split_seat-seat-requires : goal.split_seat-seat-requires
split_seat-seat-requires c =
    let home : c.drawer.inside.seat.table_id ≡ c.self.inside.table.shared.table_id =
    ap (λ d. d.drawn_from.home) c.drawer.view_is
    ∙ (ap (λ d. d.home) c.requires.belongs ∙ sym (ap (λ d. d.home) c.self.view_is)) in
    let word : 0 < c.self.inside.table.shared.table_id.words = omega (arith, c.self.invariant.1) in
    (home, word, parts _ _ _ c.drawer.invariant.unjoined)

pub invariant_of-drawer : goal.invariant_of-drawer
invariant_of-drawer c = held_left _ _ _ _ c.drawer.invariant c.split_seat-seat.ensures.2
