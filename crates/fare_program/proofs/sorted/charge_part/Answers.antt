use Rattle.std.proofs.Common.{ap, map}
use Rattle.fare_program.proofs.{Causes.can_stop, Ends.gives_by, Ends.unwritten}
use Rattle.fare_program.specs.Parts.{report_over}
use Rattle.std.proofs.lemmas.Result.{IfErr-weaker}
use Rattle.fare_program.proofs.sorted.charge_part.Goals as goal

pub returns-then-options-clause-ends : goal.returns-then-options-clause-ends
returns-then-options-clause-ends g c =
    rw c.if-options.true (gives_by _ _ _ _ _ _ c.write_ledger_of_part.result (λ given. cc)
    (λ text success is. is) c.write_ledger_of_part.ensures.ends)

pub returns-in-Ok-part_bill-clause-ends : goal.returns-in-Ok-part_bill-clause-ends
returns-in-Ok-part_bill-clause-ends g c =
    let (history, is, few, part) = c.in-Ok-part_bill.ensures.billed in
    let made = c.in-Ok-part_bill.made in
    rw c.if-options.false (gives_by _ _ _ _ _ _ c.write_made.result (λ given. tt)
    (λ text success right. (
      right.0,
      λ all are.
          let (lists, of, ended) = part all are in
          record {
            spans = made.spans.items;
            lists = lists;
            history = history;
            part = of;
            body = report_over made.billed.ends.items history;
            shows = ap (λ ends. report_over ends history) ended;
            whole = right.1;
          },
    ))
    (c.write_made.ensures.ends history is))

pub returns-in-Err-clause-ends : goal.returns-in-Err-clause-ends
returns-in-Err-clause-ends g c =
    unwritten _ _ c.of_bill.result
    (λ write. c.in-Err.ensures.unwritten (c.of_bill.ensures.write write))

pub returns-in-Ok-part_bill-clause-stop : goal.returns-in-Ok-part_bill-clause-stop
returns-in-Ok-part_bill-clause-stop g c =
    IfErr-weaker c.write_made.result _ _ (can_stop _ _ _ _ (λ none. absurd none) (λ late. late))
    c.write_made.ensures.stop

pub returns-in-Err-clause-stop : goal.returns-in-Err-clause-stop
returns-in-Err-clause-stop g c =
    rw c.deref.ensures.value at
    (c.of_bill.ensures.right (map g.F.Placed.bytes c.args.files.now) c.in-Err.ensures.fault)
