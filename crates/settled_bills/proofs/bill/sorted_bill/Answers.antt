use Rattle.std.proofs.Common.{◌<◌, ◌^◌, ℕ, List, [], map, sym, ap, subst, ◌∙◌, arith, refl}
use Rattle.settlement.proofs.TokenRuns.{posted_length}
use Rattle.settlement.specs.Posted.{posted}
use Rattle.settled_bills.proofs.Counted.{plain_ends, too_many}
use Rattle.settled_bills.proofs.{JoinedParts.whole_spans, SettledFiles.settled_list}
use Rattle.settled_bills.specs.inside.Charged.{IsPart}
use Rattle.std.proofs.lemmas.Result.{IfOk-at_ok, err_from_is_err_and}
use Rattle.std.specs.Prelude.{sum}
use Rattle.tap_views.specs.UploadEnds.{ArePlainEnds}
use Rattle.tap_views.specs.declared.upload_end.UploadEnd.{UploadEnd, TheVariants.Posted}
use Rattle.settled_bills.proofs.bill.sorted_bill.Goals as goal

pub returns-clause-billed : goal.returns-clause-billed
returns-clause-billed g c =
    let fares = c.args.table.now in
    let part = IfOk-at_ok (IsPart fares (map g.F.Placed.bytes c.args.files.now))
    c.in_ok-part.ensures.made c.all_taps-charged.ensures in
    let counted = part.counted in
    let few = part.few in
    let long = posted_length fares [] part.taps in
    let whole = c.if-not-is_whole.ensures in (
      posted fares part.taps,
      part.bill_is,
      omega (arith, counted, few, long),
      λ all are.
          let have = part.in_files all are in
          c.posted_taps.ensures.history fares all part.taps
          (settled_list all have.lists part.taps
          (whole_spans all c.in_ok-part.part.spans.items have.lists have.spanned
          (whole.begins refl) (whole.ends refl)) have.canonical part.named),
    )

pub returns-clause-ended : goal.returns-clause-ended
returns-clause-ended g c = λ all are.
    let part = IfOk-at_ok (IsPart c.args.table.now (map g.F.Placed.bytes c.args.files.now))
    c.in_ok-part.ensures.made c.all_taps-charged.ensures in
    let have = part.in_files all are in
    let whole = c.if-not-is_whole.ensures in
    subst (λ (ends : List UploadEnd). ArePlainEnds all ends)
    (sym (c.in_ok-ends.ensures.ends ∙ ap (map Posted) (c.deref-3.ensures.value ∙ have.counted)))
    (plain_ends all have.lists (whole_spans all c.in_ok-part.part.spans.items have.lists
    have.spanned (whole.begins refl) (whole.ends refl)))

pub returns-in_err-_counted-clause-fault : goal.returns-in_err-_counted-clause-fault
returns-in_err-_counted-clause-fault g c =
    let p = err_from_is_err_and c.from_residual-in_err-_counted.result
    c.from_residual-in_err-_counted.ensures.1 in
    let part = IfOk-at_ok (IsPart c.args.table.now (map g.F.Placed.bytes c.args.files.now))
    c.in_ok-part.ensures.made c.all_taps-charged.ensures in
    let many = c.in_err-_counted.ensures.many in
    let whole = c.if-not-is_whole.ensures in
    rw (p.1, p.2, many.0) (λ all are.
    let have = part.in_files all are in
    too_many all c.in_ok-part.part.numbers.items (record {
      lists = have.lists;
      sorted = whole_spans all c.in_ok-part.part.spans.items have.lists have.spanned
          (whole.begins refl) (whole.ends refl);
      counted = have.counted;
    }) (subst (λ (ns : List ℕ). 2 ^ 46 < sum ns) c.deref-2.ensures.value many.1))

pub returns-in_err-ends-clause-fault : goal.returns-in_err-ends-clause-fault
returns-in_err-ends-clause-fault g c =
    let p = err_from_is_err_and c.from_residual-in_err-ends.result
    c.from_residual-in_err-ends.ensures.1 in
    rw (p.1, p.2) (λ all are. tt)
