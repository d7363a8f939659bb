use Rattle.std.proofs.Common.{[], map, ap, ◌∙◌, arith, refl}
use Rattle.std.proofs.lemmas.Result.{IfOk-at_ok, err_from_is_err_and}
use Rattle.tap_views.specs.declared.upload_end.UploadEnd.TheVariants.{Posted}
use Rattle.settlement.specs.Posted.{posted}
use Rattle.settlement.proofs.TokenRuns.{posted_length}
use Rattle.settled_bills.specs.inside.Charged.{IsPart}
use Rattle.settled_bills.proofs.token_part.part_bill.Goals as goal

pub returns-clause-billed : goal.returns-clause-billed
returns-clause-billed g c =
    let fares = c.args.table.now in
    let part = IfOk-at_ok (IsPart fares (map g.F.Placed.bytes c.args.files.now))
    c.in_ok-part.ensures.made c.part_of-charged.ensures in
    let counted = part.counted in
    let few = part.few in
    let long = posted_length fares [] part.taps in (
      posted fares part.taps,
      part.bill_is,
      omega (arith, counted, few, long),
      λ all are.
          let have = part.in_files all are in (
            have.lists,
            record {
              taps = part.taps;
              spanned = have.spanned;
              canonical = have.canonical;
              named = part.named;
              posted_are = refl;
            },
            c.in_ok-ends.ensures.ends
                ∙ ap (map Posted) (c.deref-2.ensures.value ∙ have.counted),
          ),
    )

pub returns-in_err-ends-clause-fault : goal.returns-in_err-ends-clause-fault
returns-in_err-ends-clause-fault g c =
    let p = err_from_is_err_and c.from_residual-in_err-ends.result
    c.from_residual-in_err-ends.ensures.1 in
    rw (p.1, p.2) (λ all are. tt)
