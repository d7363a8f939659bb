use Rattle.std.proofs.Common.{[], refl}
use Rattle.std.proofs.lemmas.Result.{err_from_is_err_and}
use Rattle.csv.specs.Records.{fields_of}
use Rattle.tap_rows.specs.Devices.{devices_of}
use Rattle.tap_rows.proofs.DeviceLemmas.{devices_first, devices_more, head_row, no_record}
use Rattle.tap_rows.proofs.DeviceLemmas.{other_head, row_fault, row_of_head}
use Rattle.tap_rows.proofs.devices.reading.read_by.Goals as goal

pub returns-then-not-has_head-clause-fault : goal.returns-then-not-has_head-clause-fault
returns-then-not-has_head-clause-fault c =
    let text = c.args.text.now in
    no_record c.args.separator text
    (c.in_ok-has_head.ensures.none c.if-not-has_head.true c.args.separator text []
    c.records_of-reader.ensures)

pub returns-then-not-is_head-clause-fault : goal.returns-then-not-is_head-clause-fault
returns-then-not-is_head-clause-fault c =
    let text = c.args.text.now in
    let head = fields_of c.next_record.new.row in
    other_head c.args.separator text head c.next_record.new.reader
    (c.in_ok-has_head.ensures.more c.if-not-has_head.false c.args.separator text []
    c.records_of-reader.ensures)
    (λ same. let is = c.is_head.ensures.1 (row_of_head head same) in
    absurd (cc (is, c.if-not-is_head.true)))

pub loop-count-init : goal.loop-count-init
loop-count-init c =
    let text = c.args.text.now in
    let head = fields_of c.next_record.new.row in
    devices_first c.args.separator text head c.next_record.new.reader
    (devices_of c.new-table.result)
    (c.in_ok-has_head.ensures.more c.if-not-has_head.false c.args.separator text []
    c.records_of-reader.ensures)
    (head_row head (c.is_head.ensures.0 c.if-not-is_head.false)) c.new-table.ensures

pub returns-in_err-add-clause-fault : goal.returns-in_err-add-clause-fault
returns-in_err-add-clause-fault c =
    let text = c.args.text.now in
    let row = fields_of c.next_record-in-loop-count.new.row in
    let p = err_from_is_err_and c.from_residual-in_err-add.result
    c.from_residual-in_err-add.ensures.1 in
    rw (p.1, p.2)
    (row_fault c.args.separator text c.loop-count.count _ c.loop-count.reader
    c.next_record-in-loop-count.new.reader (devices_of c.loop-count.table) row
    c.in_err-add.field-0.0
    c.loop-count.invariant
    (λ rows consumed. c.in_ok-has_row.ensures.more c.if-not-has_row.false c.args.separator text
    rows
    consumed) refl c.in_err-add.ensures.fault)

pub loop-count-preserved : goal.loop-count-preserved
loop-count-preserved c =
    let text = c.args.text.now in
    let row = fields_of c.next_record-in-loop-count.new.row in
    let (device, is, none, more) = c.in_ok-add.ensures.added in
    devices_more c.args.separator text c.loop-count.count c.loop-count.reader
    c.next_record-in-loop-count.new.reader (devices_of c.loop-count.table)
    (devices_of c.add.new.self) row device
    c.loop-count.invariant
    (λ rows consumed. c.in_ok-has_row.ensures.more c.if-not-has_row.false c.args.separator text
    rows
    consumed) is none more
