use Rattle.std.proofs.Common.{◌≡◌, ◌<◌, ap, sym, ◌∙◌, arith}
use Rattle.shared_books.proofs.TurnSteps.{looks}
use Rattle.shared_books.proofs.turns.SharedBook.look.Goals as goal

pub load-requires : goal.load-requires
load-requires c =
    let home : c.args.seat.now.table_id ≡ c.self.inside.table.shared.table_id =
    c.requires.belongs ∙ sym (ap (λ o. o.home) c.self.view_is) in
    let word : 0 < c.self.inside.table.shared.table_id.words = omega (arith, c.self.invariant.1) in
    (home, word, looks _ _ _ _ c.requires.free.unjoined)
