-- All taps of the files are their settled taps, and their lines are the ledger.
use Rattle.std.proofs.Common.{◌≡◌, ◌∙◌, ◌++◌, ◌^◌, ◌<◌, List, ap, map, refl, subst, sym, ℕ}
use Rattle.fare_texts.proofs.Along.{ledger_along}
use Rattle.fare_texts.specs.LedgerLines.{head_text}
use Rattle.settled_bills.proofs.{Counted.too_many, LedgerStarted.ledger_started}
use Rattle.settled_bills.proofs.{OwnTaps.own_counted, OwnTaps.own_ends, Rows.posted_nondecreasing}
use Rattle.settled_bills.specs.declared.fault.BillFault.TheVariants.{NoMemory, Write}
use Rattle.settled_bills.specs.inside.Taken.{IsReady}
use Rattle.settlement.specs.Posted.{posted}
use Rattle.sorted_taps.specs.Merges.{AreAtEnd, AreStarted}
use Rattle.sorted_taps.specs.declared.{merge.Merge.Merge, reader.TapReader.TapReader}
use Rattle.std.proofs.lemmas.Result.{err_from_is_err_and}
use Rattle.std.specs.Prelude.{sum}
use Rattle.tap_views.specs.UploadEnds.{ArePlainEnds}
use Rattle.tap_views.specs.declared.upload_end.UploadEnd.{UploadEnd, TheVariants.Posted}
use Rattle.settled_bills.proofs.sorted_ledger.write_sorted_ledger.Goals as goal

pub write_lines-requires-clause-ready : goal.write_lines-requires-clause-ready
write_lines-requires-clause-ready g c κs within = subst (λ (n : ℕ). IsReady n c.in_ok-taker.taker)
    c.in_ok-merge.ensures.number c.in_ok-taker.ensures.ready

pub returns-clause-ok : goal.returns-clause-ok
returns-clause-ok g c =
    let fares = c.args.table.now in
    let has = c.in_ok-write_lines.ensures.whole in
    let at_end = subst (λ (rs : List TapReader). AreAtEnd rs) c.readers.ensures
    (c.if-not-are_at_end.ensures refl) in
    let history = posted fares has.taps in (
      head_text ++ has.lines,
      λ all are.
          record {
            history = history;
            is_settled = c.posted_taps.ensures.history fares all has.taps
                (c.taken_taps_are_settled.ensures all c.in_ok-taker.taker.merge.readers.items
                c.write_lines.new.taker.merge.readers.items has.taps
                (subst (λ (m : Merge). AreStarted all m.readers.items)
                (sym c.in_ok-taker.ensures.merge) (c.in_ok-merge.ensures.started all are))
                (has.taken.taken all are) at_end has.taken.named);
            over = ledger_along fares history has.lines
                (posted_nondecreasing fares _ has.taps has.nondecreasing) has.are;
          },
      has.holds,
    )

pub returns-clause-ended : goal.returns-clause-ended
returns-clause-ended g c = λ all are.
    subst (λ (ends : List UploadEnd). ArePlainEnds all ends)
    (sym (c.in_ok-ends.ensures.ends ∙ ap (map Posted) c.deref-2.ensures.value))
    (own_ends _ all _ _ (c.in_ok-own.ensures.own all are))

pub returns-in_err-left-clause-fault : goal.returns-in_err-left-clause-fault
returns-in_err-left-clause-fault g c =
    let p = err_from_is_err_and c.from_residual-in_err-left.result
    c.from_residual-in_err-left.ensures.1 in
    let many = c.in_err-left.ensures.many in
    rw (p.1, p.2, many.0) (λ all are. too_many all c.in_ok-own.own.numbers.items
    (own_counted _ all _ _ (c.in_ok-own.ensures.own all are))
    (subst (λ (ns : List ℕ). 2 ^ 46 < sum ns) c.deref.ensures.value many.1))

-- ---- a beginning was written
pub returns-in_err-write_lines-clause-started : goal.returns-in_err-write_lines-clause-started
returns-in_err-write_lines-clause-started g c =
    let p = err_from_is_err_and c.from_residual-in_err-write_lines.result
    c.from_residual-in_err-write_lines.ensures.1 in
    let fares = c.args.table.now in
    rw (p.1, p.2) (λ is_write.
    let (readers, has) = c.in_err-write_lines.ensures.started is_write in
    ledger_started fares (map g.F.Placed.bytes c.args.files.now) _ _
    c.in_ok-taker.taker.merge.readers.items readers c.least_token.result
    (g.W.Write.contents c.args.out.now) (g.W.Write.contents c.write_lines.new.out)
    c.in_ok-own.ensures.own
    (λ all are. subst (λ (m : Merge). AreStarted all m.readers.items)
    (sym c.in_ok-taker.ensures.merge) (c.in_ok-merge.ensures.started all are))
    c.least_token.ensures (c.posted_taps.ensures.history fares) has)

pub returns-in_err-write_lines-clause-sorted : goal.returns-in_err-write_lines-clause-sorted
returns-in_err-write_lines-clause-sorted g c =
    let p = err_from_is_err_and c.from_residual-in_err-write_lines.result
    c.from_residual-in_err-write_lines.ensures.1 in
    rw (p.1) (λ is_write all are. (
      c.in_ok-ends.ends.items,
      subst (λ (ends : List UploadEnd). ArePlainEnds all ends)
          (sym (c.in_ok-ends.ensures.ends ∙ ap (map Posted) c.deref-2.ensures.value))
          (own_ends _ all _ _ (c.in_ok-own.ensures.own all are)),
      c.in_ok-ends.ensures.posted,
    ))

-- ---- other faults
pub returns-in_err-own-clause-sorted : goal.returns-in_err-own-clause-sorted
returns-in_err-own-clause-sorted g c =
    let p = err_from_is_err_and c.from_residual-in_err-own.result
    c.from_residual-in_err-own.ensures.1 in
    rw (p.1, p.2) (λ is_write all are. absurd (c.in_err-own.ensures.unwritten is_write))

pub returns-in_err-left-clause-sorted : goal.returns-in_err-left-clause-sorted
returns-in_err-left-clause-sorted g c =
    let p = err_from_is_err_and c.from_residual-in_err-left.result
    c.from_residual-in_err-left.ensures.1 in
    let many = c.in_err-left.ensures.many in
    rw (p.1, p.2, many.0) (λ is_write all are. absurd (cc))

pub returns-in_err-ends-clause-sorted : goal.returns-in_err-ends-clause-sorted
returns-in_err-ends-clause-sorted g c =
    let p = err_from_is_err_and c.from_residual-in_err-ends.result
    c.from_residual-in_err-ends.ensures.1 in
    rw (p.1, p.2) (λ is_write all are. absurd (let wrong : NoMemory ≡ Write = is_write in cc))

pub returns-in_err-taker-clause-sorted : goal.returns-in_err-taker-clause-sorted
returns-in_err-taker-clause-sorted g c =
    let p = err_from_is_err_and c.from_residual-in_err-taker.result
    c.from_residual-in_err-taker.ensures.1 in
    rw (p.1, p.2) (λ is_write all are. absurd (let wrong : NoMemory ≡ Write = is_write in cc))

pub returns-in_err-write_lines-clause-fault : goal.returns-in_err-write_lines-clause-fault
returns-in_err-write_lines-clause-fault g c =
    let p = err_from_is_err_and c.from_residual-in_err-write_lines.result
    c.from_residual-in_err-write_lines.ensures.1 in
    rw (p.1, p.2) (λ all are. c.in_err-write_lines.ensures.fault all)

pub returns-in_err-merge-clause-started : goal.returns-in_err-merge-clause-started
returns-in_err-merge-clause-started g c =
    let p = err_from_is_err_and c.from_residual-in_err-merge.result
    c.from_residual-in_err-merge.ensures.1 in
    rw (p.1) (λ is_write. absurd (p.2.unwritten is_write))

pub returns-in_err-merge-clause-sorted : goal.returns-in_err-merge-clause-sorted
returns-in_err-merge-clause-sorted g c =
    let p = err_from_is_err_and c.from_residual-in_err-merge.result
    c.from_residual-in_err-merge.ensures.1 in
    rw (p.1) (λ is_write all are. absurd (p.2.unwritten is_write))

pub returns-in_err-merge-clause-fault : goal.returns-in_err-merge-clause-fault
returns-in_err-merge-clause-fault g c =
    let p = err_from_is_err_and c.from_residual-in_err-merge.result
    c.from_residual-in_err-merge.ensures.1 in
    rw (p.1) (λ all are. p.2.says_nothing all)
