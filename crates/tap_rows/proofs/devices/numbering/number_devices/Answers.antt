use Rattle.std.proofs.Common.{[], inr, refl}
use Rattle.csv.specs.Records.{fields_of}
use Rattle.tap_rows.proofs.GoingLemmas.{head_fault, head_is, no_head}
use Rattle.tap_rows.proofs.NumberingLemmas.{numbering_done, numbering_more}
use Rattle.tap_rows.specs.{Devices.devices_of, declared.agency.fault.Wanted.TheVariants.Token}
use Rattle.tap_rows.proofs.devices.numbering.number_devices.Goals as goal

pub returns-then-not-has_head : goal.returns-then-not-has_head
returns-then-not-has_head c =
    let columns = c.args.choice.now.columns.now in
    inr (
      Token,
      no_head columns.separator c.args.text.now columns.token.now
          (c.in_ok-has_head.ensures.none c.if-not-has_head.true columns.separator c.args.text.now []
          c.records_of-reader.ensures),
      refl,
    )

pub returns-in-Err-Column : goal.returns-in-Err-Column
returns-in-Err-Column c =
    let separator = c.args.choice.now.columns.now.separator in
    let head = fields_of c.next_record.new.row in
    let consumed = c.in_ok-has_head.ensures.more c.if-not-has_head.false separator c.args.text.now
    [] c.records_of-reader.ensures in
    inr (
      c.in-Err-Column.field-0-0,
      rw c.in-Err-Column.field-0-is at (head_fault c.args.choice.now
          c.args.text.now head c.in-Err-Column.field-0
          (head_is separator c.args.text.now head [] _ _ consumed.reached)
          c.in-Err-Column.ensures.fault),
      refl,
    )

pub loop-count-init : goal.loop-count-init
loop-count-init c = record {
  head = fields_of c.next_record.new.row;
  rows = [];
  columns = c.in-Ok.ensures.positions;
  consumed = c.in_ok-has_head.ensures.more c.if-not-has_head.false
      c.args.choice.now.columns.now.separator c.args.text.now [] c.records_of-reader.ensures;
  now_are = refl;
}

pub loop-count-preserved : goal.loop-count-preserved
loop-count-preserved c =
    let choice = c.args.choice.now in
    numbering_more choice c.in-Ok.positions c.args.text.now c.loop-count.reader
    c.next_record-in-loop-count.new.reader (devices_of c.args.devices.now)
    (devices_of c.loop-count.devices) (devices_of c.number_row.new.devices)
    (fields_of c.next_record-in-loop-count.new.row) c.loop-count.invariant
    (λ rows consumed. c.in_ok-has_row.ensures.more c.if-not-has_row.false
    choice.columns.now.separator c.args.text.now rows consumed) c.in_ok-number_row.ensures

pub returns-then-not-has_row : goal.returns-then-not-has_row
returns-then-not-has_row c =
    let choice = c.args.choice.now in
    numbering_done choice c.in-Ok.positions c.args.text.now c.loop-count.reader
    (devices_of c.args.devices.now) (devices_of c.loop-count.devices) c.loop-count.invariant
    (λ rows consumed. c.in_ok-has_row.ensures.none c.if-not-has_row.true
    choice.columns.now.separator c.args.text.now rows consumed)
