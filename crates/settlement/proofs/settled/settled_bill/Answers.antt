use Rattle.std.proofs.Common.{List, sym, subst, rules}
use Rattle.settlement.proofs.{PartBills.flat, SettledOrders.bill_settled}
use Rattle.settlement.specs.inside.Billing.{AreRangesFrom, IsBillOfTaps}
use Rattle.tap_views.specs.declared.encoder.TapFields.{TapFields}
use Rattle.settlement.proofs.settled.settled_bill.Goals as goal

pub bill_by_threads-requires : goal.bill_by_threads-requires
bill_by_threads-requires g c =
    let split = c.in_ok-ends.ensures.2 in (
      search rules,
      (
        search rules,
        (
          search rules,
          (
            split.bounds,
            0,
            subst (AreRangesFrom split.bounds 0) (sym c.deref.ensures.value) split.ranges,
          ),
        ),
      ),
    )

pub returns : goal.returns
returns g c =
    let (files, read, split) = c.in_ok-ends.ensures in (
      files,
      read,
      split.ended,
      bill_settled files c.in_ok-ends.field-0.ends.items c.in_ok-ends.field-0.parts.items split
          c.args.table.now
          c.in_ok-bill.bill
          (subst (λ (ps : List (List TapFields)). IsBillOfTaps c.args.table.now (flat ps)
          c.in_ok-bill.bill)
          c.deref.ensures.value c.in_ok-bill.ensures),
    )
