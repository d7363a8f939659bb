use Rattle.std.proofs.Common.{subst, sym}
use Rattle.tap_parts.specs.Canonical.{IsCanonical}
use Rattle.settlement.proofs.bill_by_threads.ordered.Goals as goal

pub returns : goal.returns
returns c =
    subst (λ ts. IsCanonical c.args.pieces.now ts) (sym c.deref.ensures.value)
    (subst (λ ts. IsCanonical ts c.arrange_into.new.list.items) c.as_slice-pieces.ensures
    c.in_ok-arrange_into.ensures)
