use Rattle.std.proofs.Common.{codes, refl, subst, sym}
use Rattle.fare_caps.specs.declared.capped_reason.CappedReason.{CappedReason}
use Rattle.fare_texts.specs.LedgerLines.{IsReasonFields}
use Rattle.fare_texts.proofs.reason_fields.put_reason_fields.Goals as goal

pub returns-in-Unknown-clause-put : goal.returns-in-Unknown-clause-put
returns-in-Unknown-clause-put c =
    let fields = codes ",,,unknown," in (
      fields,
      subst
          (λ (why : CappedReason). IsReasonFields c.args.table.now.meaning.cap_names why fields)
          (sym c.in-Unknown.is) refl,
      c.put.ensures.put,
    )
