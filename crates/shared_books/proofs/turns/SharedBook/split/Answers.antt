use Rattle.std.proofs.Common.{◌≡◌, ◌<◌, ap, sym, ◌∙◌, arith}
use Rattle.shared_books.proofs.{PassSteps.parts, Passing.new_pass_is, Passing.left_pass_is}
use Rattle.shared_books.proofs.turns.SharedBook.split.Goals as goal

pub split_seat-seat-requires : goal.split_seat-seat-requires
split_seat-seat-requires c =
    let home : c.pass.inside.seat.table_id ≡ c.self.inside.table.shared.table_id =
    ap (λ d. d.book.home) c.pass.view_is
    ∙ (ap (λ d. d.home) c.requires.belongs ∙ sym (ap (λ d. d.home) c.self.view_is)) in
    let word : 0 < c.self.inside.table.shared.table_id.words = omega (arith, c.self.invariant.1) in
    (home, word, parts _ _ _ c.pass.invariant.free.unjoined)

pub invariant_of-result : goal.invariant_of-result
invariant_of-result c = new_pass_is _ _ _ c.pass.invariant c.split_seat-seat.ensures.4

pub invariant_of-pass : goal.invariant_of-pass
invariant_of-pass c = left_pass_is _ _ _ c.pass.invariant c.split_seat-seat.ensures.2
