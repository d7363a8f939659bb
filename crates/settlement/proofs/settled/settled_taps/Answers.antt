use Rattle.settlement.proofs.SettledOrders.{lists_settled}
use Rattle.settlement.proofs.settled.settled_taps.Goals as goal

pub returns : goal.returns
returns g c =
    let (files, read, split) = c.in_ok-ends.ensures in (
      files,
      read,
      split.ended,
      lists_settled files c.in_ok-ends.field-0.ends.items c.in_ok-ends.field-0.parts.items
          c.in_ok-lists.lists.items split c.in_ok-lists.ensures,
    )
