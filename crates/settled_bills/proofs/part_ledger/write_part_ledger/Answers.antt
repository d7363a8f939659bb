-- The lines of the taps between the places of the spans are the ledger of the part.
use Rattle.std.proofs.Common.{List, ◌++◌, sym, subst, ◌∙◌, refl}
use Rattle.fare_texts.proofs.Along.{ledger_along}
use Rattle.fare_texts.specs.LedgerLines.{head_text}
use Rattle.settled_bills.proofs.Rows.{posted_nondecreasing}
use Rattle.settlement.specs.Posted.{posted}
use Rattle.sorted_taps.specs.{Positions.AreSpanned, declared.positions.FileSpan.FileSpan}
use Rattle.std.proofs.lemmas.Result.{err_from_is_err_and}
use Rattle.settled_bills.proofs.part_ledger.write_part_ledger.Goals as goal

pub returns-clause-ok : goal.returns-clause-ok
returns-clause-ok g c =
    let fares = c.args.table.now in
    let has = c.in_ok-write_lines.ensures.whole in
    let same = sym c.deref.ensures.value ∙ c.if-not-are_spans.ensures refl in
    let history = posted fares has.taps in (
      head_text ++ has.lines,
      λ all known.
          let have = c.in_ok-made.ensures all c.in_ok-started.started.taker.merge.readers.items
          has.taps known (c.in_ok-started.ensures.placed all known) (has.taken.taken all known) in (
            have.lists,
            history,
            record {
              taps = has.taps;
              spanned = subst (λ (spans : List FileSpan). AreSpanned all spans have.lists) same
                  have.spanned;
              canonical = have.canonical;
              named = has.taken.named;
              posted_are = refl;
            },
            ledger_along fares history has.lines
                (posted_nondecreasing fares _ has.taps has.nondecreasing) has.are,
          ),
      has.holds,
    )

pub returns-in_err-write_lines-clause-started : goal.returns-in_err-write_lines-clause-started
returns-in_err-write_lines-clause-started g c =
    let p = err_from_is_err_and c.from_residual-in_err-write_lines.result
    c.from_residual-in_err-write_lines.ensures.1 in
    rw (p.1, p.2) (λ is_write.
    let (readers, has) = c.in_err-write_lines.ensures.started is_write in
    (has.taps, has.lines, has.are, has.holds))

pub returns-in_err-write_lines-clause-fault : goal.returns-in_err-write_lines-clause-fault
returns-in_err-write_lines-clause-fault g c =
    let p = err_from_is_err_and c.from_residual-in_err-write_lines.result
    c.from_residual-in_err-write_lines.ensures.1 in
    rw (p.1, p.2) (λ all are. c.in_err-write_lines.ensures.fault all)
