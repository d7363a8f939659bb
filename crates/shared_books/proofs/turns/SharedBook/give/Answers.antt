use Rattle.std.proofs.Common.{◌≡◌, ◌<◌, ap, sym, ◌∙◌, arith}
use Rattle.shared_books.proofs.Handing.{store_allowed, slot_empty}
use Rattle.shared_books.proofs.turns.SharedBook.give.Goals as goal

pub store-requires-2 : goal.store-requires-2
store-requires-2 c =
    let home : c.args.seat.now.table_id ≡ c.self.inside.table.shared.table_id =
    c.requires.belongs ∙ sym (ap (λ o. o.home) c.self.view_is) in
    let word : 0 < c.self.inside.table.shared.table_id.words =
    omega (arith, c.self.invariant.1) in (
      c.exchange.ensures.0
          ∙ home,
      word,
      store_allowed _ _ _ c.args.seat.now.me _ _ _ c.requires.brings
          c.exchange.ensures.3,
    )

pub unreachable-requires : goal.unreachable-requires
unreachable-requires c =
    let slot = slot_empty _ _ c.exchange.ensures.2 c.requires.brings.carries in
    let some_is = c.in-Some.is in
    cc
