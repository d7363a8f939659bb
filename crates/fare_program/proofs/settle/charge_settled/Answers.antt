use Rattle.std.proofs.Common.{◌∙◌, ap, rules}
use Rattle.fare_program.proofs.{Billed.shows_bill, Billed.shows_ledger, Ends.gives_by}
use Rattle.fare_program.proofs.Ends.{gives_printed}
use Rattle.fare_program.specs.inside.{Fault.ended_as, Options.request_of}
use Rattle.tap_views.specs.UploadEnds.{are_posted}
use Rattle.fare_program.proofs.settle.charge_settled.Goals as goal

pub returns-in-Ok-clause-ends : goal.returns-in-Ok-clause-ends
returns-in-Ok-clause-ends g c =
    let (files, read, ended, taps) = c.in-Ok.ensures.order in
    gives_by _ _ _ _ _ _ c.write_taps.result (λ given. given)
    (λ text success is. (files, read, is.1 files ended taps)) c.write_taps.ensures.ends

pub write_settled_ledger-written-requires-clause-sorted : goal.write_settled_ledger-written-requires-clause-sorted
write_settled_ledger-written-requires-clause-sorted g c κs within =
    rw c.deref.ensures.value c.in-Ok-settled_taps.ensures.3.canonical.sorted

pub write_settled_ledger-written-requires-clause-early : goal.write_settled_ledger-written-requires-clause-early
write_settled_ledger-written-requires-clause-early g c κs within =
    rw c.deref.ensures.value c.in-Ok-settled_taps.ensures.3.early

pub write_settled_ledger-written-requires-clause-named : goal.write_settled_ledger-written-requires-clause-named
write_settled_ledger-written-requires-clause-named g c κs within =
    rw c.deref.ensures.value c.in-Ok-settled_taps.ensures.3.named

pub returns-in-Ok-settled_taps-clause-ends : goal.returns-in-Ok-settled_taps-clause-ends
returns-in-Ok-settled_taps-clause-ends g c =
    let (files, read, ends, made) = c.in-Ok-settled_taps.ensures in
    let fares = c.args.table.now in
    rw c.ended.ensures.ended
    (gives_by _ _ _ _ _ _ (ended_as c.write_settled_ledger-written.result c.are_posted.result) (λ given. given)
    (λ text success is. (
      files,
      read,
      shows_ledger (request_of c.args.job.now.options) fares files c.args.job.now.token text success
          _ (c.posted_taps.ensures.history fares files _ made) _ ends
          (is.0 ∙ c.are_posted.ensures ∙ ap are_posted c.deref-in-Ok-settled_taps.ensures.value) c.in-None.is
          (search rules) (rw c.deref.ensures.value at is.1),
    ))
    (gives_printed g.W.Write.contents _ _ _ c.write_settled_ledger-written.result c.are_posted.result c.write_settled_ledger-written.ensures.ok
    c.write_settled_ledger-written.ensures.started c.write_settled_ledger-written.ensures.fault))

pub write_billed-requires : goal.write_billed-requires
write_billed-requires g c =
    let (files, read, ended, billed) = c.in-Ok-settled_bill.ensures in
    (billed.0, billed.2, billed.3)

pub returns-in-Ok-settled_bill-clause-ends : goal.returns-in-Ok-settled_bill-clause-ends
returns-in-Ok-settled_bill-clause-ends g c =
    let (files, read, ended, billed) = c.in-Ok-settled_bill.ensures in
    gives_by _ _ _ _ _ _ c.write_billed.result (λ given. given)
    (λ text success made. (
      files,
      read,
      shows_bill (request_of c.args.job.now.options) c.args.table.now files c.args.job.now.token
          text success billed.0 billed.1 _ ended made.0 c.in-None-2.is (search rules)
          (made.1 billed.0 billed.2),
    ))
    c.write_billed.ensures.ends
