use Rattle.std.proofs.Common.{◌≡◌, ◌<◌, ap, sym, ◌∙◌, arith}
use Rattle.shared_books.proofs.{Handing.first_again, TurnSteps.takes_turn}
use Rattle.shared_books.proofs.turns.SharedBook.try_take.Goals as goal

pub compare_exchange-before-requires : goal.compare_exchange-before-requires
compare_exchange-before-requires c =
    let home : c.args.seat.now.table_id ≡ c.self.inside.table.shared.table_id =
    c.requires.belongs ∙ sym (ap (λ o. o.home) c.self.view_is) in
    let word : 0 < c.self.inside.table.shared.table_id.words =
    omega (arith, c.self.invariant.1) in (
      home,
      word,
      takes_turn _ _ _ _ _ _ c.requires.free.unjoined c.requires.free.turn
          c.requires.even.1 c.requires.few,
    )

pub exchange-requires : goal.exchange-requires
exchange-requires c =
    let home : c.args.seat.now.table_id ≡ c.self.inside.table.shared.table_id =
    c.requires.belongs ∙ sym (ap (λ o. o.home) c.self.view_is) in
    let taken = c.compare_exchange-before.ensures.2.won c.if-before-found.true in
    (c.compare_exchange-before.ensures.0 ∙ home, (_, first_again _ _ _ taken.carries))
