use Rattle.std.proofs.Common.{◌∙◌, map, refl, rules, sym, true}
use Rattle.fare_program.proofs.{Billed.shows_bill, Billed.shows_ledger, Causes.can_stop}
use Rattle.fare_program.proofs.Ends.{gives_by, stopped, unwritten}
use Rattle.fare_program.specs.inside.Options.{request_of}
use Rattle.std.proofs.{KnownBytes.Keeps-refl, lemmas.Result.IfErr-weaker}
use Rattle.fare_program.proofs.sorted.charge_sorted.Goals as goal

pub returns-in-Ok-clause-ends : goal.returns-in-Ok-clause-ends
returns-in-Ok-clause-ends g c =
    gives_by _ _ _ _ _ _ c.write_taps.result (λ given. tt)
    (λ text success is.
    let succeeds = is.0 ∙ c.in-Ok.ensures.posted in (
      succeeds,
      λ all are. rw succeeds at
          (is.1 all (c.in-Ok.ensures.ended all are) (c.in-Ok.ensures.order all are)),
    ))
    c.write_taps.ensures.ends

pub returns-in-Err-clause-ends : goal.returns-in-Err-clause-ends
returns-in-Err-clause-ends g c =
    unwritten _ _ c.of_bill.result
    (λ write. c.in-Err.ensures.unwritten (c.of_bill.ensures.write write))

pub returns-in-Ok-write_sorted_ledger-clause-ends : goal.returns-in-Ok-write_sorted_ledger-clause-ends
returns-in-Ok-write_sorted_ledger-clause-ends g c =
    let made = c.in-Ok-write_sorted_ledger.ensures in
    let (text, is, written) = made.ok in (
      text,
      (
        refl,
        λ all are.
            let of = is all are in
            shows_ledger (request_of c.args.job.now.options) c.args.table.now all
            c.args.job.now.token text true of.history of.is_settled _ (made.ended all are)
            (sym made.posted) c.in-None.is (search rules) of.over,
      ),
      written,
    )

pub returns-in-Err-write_sorted_ledger-clause-ends : goal.returns-in-Err-write_sorted_ledger-clause-ends
returns-in-Err-write_sorted_ledger-clause-ends g c =
    let fault = c.in-Err-write_sorted_ledger.ensures in
    let of_bill = c.of_bill-in-Err-write_sorted_ledger in
    stopped _ _ _ of_bill.result
    (λ write late. rw (fault.kept (of_bill.ensures.before write late)) (Keeps-refl _))
    (λ write.
    let unwritten = of_bill.ensures.write write in
    let (text, is, started) = fault.started unwritten in (
      text,
      λ given. (
        true,
        (
          refl,
          λ all are.
              let of = is all are in
              let (ends, plain, success) = fault.sorted unwritten all are in
              shows_ledger (request_of c.args.job.now.options) c.args.table.now all
              c.args.job.now.token text true of.history of.is_settled ends plain (sym success)
              c.in-None.is (search rules) of.over,
        ),
      ),
      started,
    ))

pub write_billed-requires : goal.write_billed-requires
write_billed-requires g c =
    let (history, is, few, settled) = c.in-Ok-sorted_bill.ensures.billed in
    (history, is, few)

pub returns-in-Ok-sorted_bill-clause-ends : goal.returns-in-Ok-sorted_bill-clause-ends
returns-in-Ok-sorted_bill-clause-ends g c =
    let made = c.in-Ok-sorted_bill.ensures in
    let (history, is, few, settled) = made.billed in
    gives_by _ _ _ _ _ _ c.write_billed.result (λ given. tt)
    (λ text success right. (
      right.0 ∙ made.posted,
      λ all are. shows_bill (request_of c.args.job.now.options) c.args.table.now all
          c.args.job.now.token text true history (settled all are) _ (made.ended all are)
          (sym made.posted) c.in-None-2.is (search rules) (right.1 history is),
    ))
    c.write_billed.ensures.ends

pub returns-in-Err-sorted_bill-clause-ends : goal.returns-in-Err-sorted_bill-clause-ends
returns-in-Err-sorted_bill-clause-ends g c =
    unwritten _ _ c.of_bill-in-Err-sorted_bill.result
    (λ write. c.in-Err-sorted_bill.ensures.unwritten
    (c.of_bill-in-Err-sorted_bill.ensures.write write))

pub returns-in-Ok-clause-stop : goal.returns-in-Ok-clause-stop
returns-in-Ok-clause-stop g c =
    IfErr-weaker c.write_taps.result _ _ (can_stop _ _ _ _ (λ none. absurd none) (λ none. absurd none))
    c.write_taps.ensures.stop

pub returns-in-Ok-sorted_bill-clause-stop : goal.returns-in-Ok-sorted_bill-clause-stop
returns-in-Ok-sorted_bill-clause-stop g c =
    IfErr-weaker c.write_billed.result _ _
    (can_stop _ _ _ _ (λ none. absurd none) (λ none. absurd none)) c.write_billed.ensures.stop

pub returns-in-Err-clause-stop : goal.returns-in-Err-clause-stop
returns-in-Err-clause-stop g c =
    rw c.deref.ensures.value at
    (c.of_bill.ensures.right (map g.F.Placed.bytes c.args.files.now) c.in-Err.ensures.fault)

pub returns-in-Err-write_sorted_ledger-clause-stop : goal.returns-in-Err-write_sorted_ledger-clause-stop
returns-in-Err-write_sorted_ledger-clause-stop g c =
    rw c.deref-in-Err-write_sorted_ledger.ensures.value at
    (c.of_bill-in-Err-write_sorted_ledger.ensures.right (map g.F.Placed.bytes c.args.files.now)
    c.in-Err-write_sorted_ledger.ensures.fault)

pub returns-in-Err-sorted_bill-clause-stop : goal.returns-in-Err-sorted_bill-clause-stop
returns-in-Err-sorted_bill-clause-stop g c =
    rw c.deref-in-Err-sorted_bill.ensures.value at
    (c.of_bill-in-Err-sorted_bill.ensures.right (map g.F.Placed.bytes c.args.files.now)
    c.in-Err-sorted_bill.ensures.fault)
