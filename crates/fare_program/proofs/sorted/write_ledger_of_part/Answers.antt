use Rattle.std.proofs.Common.{◌++◌, map, refl}
use Rattle.std.proofs.KnownBytes.{Appends-trans}
use Rattle.fare_texts.proofs.Beginnings.{begins_after}
use Rattle.fare_texts.specs.LedgerLines.{head_text}
use Rattle.part_texts.specs.Heads.{part_head}
use Rattle.fare_program.proofs.Ends.{printed, unwritten}
use Rattle.fare_program.proofs.sorted.write_ledger_of_part.Goals as goal

pub returns-in-Ok-write_part_ledger-clause-ends : goal.returns-in-Ok-write_part_ledger-clause-ends
returns-in-Ok-write_part_ledger-clause-ends g c =
    let old = g.W.Write.contents c.args.out.now in
    let mid = g.W.Write.contents c.write_part_head.new.out in
    let new = g.W.Write.contents c.write_part_ledger.new.out in
    let spans = c.in-Ok.spans.items in
    let (body, part, written) = c.in-Ok-write_part_ledger.ensures.ok in (
      part_head spans ++ body,
      (
        refl,
        λ all are.
            let (lists, history, of, over) = part all are in
            record {
              spans = spans;
              lists = lists;
              history = history;
              part = rw c.deref-3.ensures.value at of;
              body = body;
              shows = over;
              whole = refl;
            },
      ),
      Appends-trans old mid new (part_head spans) body
          (rw c.deref-2.ensures.value at c.in_default.ensures.ok) written,
    )

-- nothing is known of a prefix of it
pub returns-in-Err-write_part_head-clause-ends : goal.returns-in-Err-write_part_head-clause-ends
returns-in-Err-write_part_head-clause-ends g c = rw c.of_print.ensures
    (printed g.W.Write.contents _ _ _ c.in-Err-write_part_head.fault c.in-Err-write_part_head.ensures.fault
    (λ write. (
      part_head c.deref-2.result.now,
      (λ given. absurd given),
      c.in-Err-write_part_head.ensures.started write,
    )))

pub returns-in-Err-Write-clause-ends : goal.returns-in-Err-Write-clause-ends
returns-in-Err-Write-clause-ends g c =
    let old = g.W.Write.contents c.args.out.now in
    let mid = g.W.Write.contents c.write_part_head.new.out in
    let new = g.W.Write.contents c.write_part_ledger.new.out in
    let (taps, lines, along, started) = c.in-Err-Write.ensures.started c.in-Err-Write.field-0-is in (
      part_head c.deref-2.result.now ++ (head_text ++ lines),
      (λ given. absurd given),
      begins_after old mid new (part_head c.deref-2.result.now) _
          c.in_default.ensures.ok started,
    )

pub returns-in-Err-clause-ends : goal.returns-in-Err-clause-ends
returns-in-Err-clause-ends g c =
    unwritten _ _ c.of_bill.result
    (λ write. c.in-Err.ensures.unwritten (c.of_bill.ensures.write write))

pub returns-in-Err-clause-stop : goal.returns-in-Err-clause-stop
returns-in-Err-clause-stop g c =
    rw c.deref.ensures.value at
    (c.of_bill.ensures.right (map g.F.Placed.bytes c.args.files.now) c.in-Err.ensures.fault)
