use Rattle.std.proofs.Common.{◌∙◌, [], ◌++◌, ap, refl}
use Rattle.std.proofs.lemmas.Result.{err_from_is_err_and}
use Rattle.csv.specs.Records.{fields_of}
use Rattle.tap_rows.specs.Agencies.{refusals_head}
use Rattle.tap_rows.proofs.AgencyRowLemmas.{no_wanting}
use Rattle.tap_rows.proofs.GoingLemmas.{going_first, going_more, head_fault, head_is, no_head}
use Rattle.tap_rows.proofs.agency.writing.encode_rows.Goals as goal

pub returns-then-not-has_head-clause-fault : goal.returns-then-not-has_head-clause-fault
returns-then-not-has_head-clause-fault c =
    let columns = c.args.choice.now.columns.now in
    no_head columns.separator c.args.text.now columns.token.now
    (c.in_ok-has_head.ensures.none c.if-not-has_head.true columns.separator c.args.text.now []
    c.records_of-reader.ensures)

pub returns-in_err-positions-clause-fault : goal.returns-in_err-positions-clause-fault
returns-in_err-positions-clause-fault c =
    let separator = c.args.choice.now.columns.now.separator in
    let head = fields_of c.next_record.new.row in
    let consumed = c.in_ok-has_head.ensures.more c.if-not-has_head.false separator
    c.args.text.now [] c.records_of-reader.ensures in
    let p = err_from_is_err_and c.from_residual-in_err-positions.result
    c.from_residual-in_err-positions.ensures.1 in
    rw (p.1, p.2) (head_fault c.args.choice.now c.args.text.now head c.in_err-positions.field-0.0
    (head_is separator c.args.text.now head [] _ _ consumed.reached)
    c.in_err-positions.ensures.fault)

pub loop-count-init : goal.loop-count-init
loop-count-init c =
    let choice = c.args.choice.now in
    let text = c.args.text.now in
    going_first choice c.in_ok-positions.positions text c.next_record.new.reader
    c.in_ok-growing.growing c.push_refusals_head.new.text.items c.new-summary.result
    (fields_of c.next_record.new.row) c.in_ok-positions.ensures.positions
    (c.in_ok-has_head.ensures.more c.if-not-has_head.false choice.columns.now.separator text []
    c.records_of-reader.ensures) c.in_ok-growing.ensures
    (c.in_ok-push_refusals_head.ensures ∙ ap (λ old. old ++ refusals_head
    choice.columns.now.separator (fields_of c.next_record.new.row)) c.new-refused.ensures.items)
    c.new-summary.ensures

pub loop-count-preserved : goal.loop-count-preserved
loop-count-preserved c =
    let choice = c.args.choice.now in
    let text = c.args.text.now in
    going_more choice c.in_ok-positions.positions text c.loop-count.count _ c.loop-count.reader
    c.next_record-in-loop-count.new.reader c.loop-count.growing c.put_row.new.growing
    c.loop-count.refused.items c.put_row.new.refused.items c.loop-count.summary
    c.with_row-summary.result (fields_of c.next_record-in-loop-count.new.row)
    c.reading_of-reading.result c.loop-count.invariant refl
    (λ rows consumed. c.in_ok-has_row.ensures.more c.if-not-has_row.false
    choice.columns.now.separator text rows consumed) c.reading_of-reading.ensures.reading
    c.in_ok-put_row.ensures.taps c.in_ok-put_row.ensures.refused
    (λ rows readings position long is. c.with_row-summary.ensures rows
    (fields_of c.next_record-in-loop-count.new.row) readings position long is)

pub returns-then-not-has_row-clause-encoded : goal.returns-then-not-has_row-clause-encoded
returns-then-not-has_row-clause-encoded c =
    let choice = c.args.choice.now in
    let going = c.loop-count.invariant in
    record {
      head = going.head;
      rows = going.rows;
      readings = going.readings;
      is_read = record {
        records = c.in_ok-has_row.ensures.none c.if-not-has_row.true choice.columns.now.separator
            c.args.text.now _ going.consumed;
        columns = no_wanting choice going.head c.in_ok-positions.positions going.columns;
        each = going.each;
      };
      upload = c.in_ok-upload.ensures _ going.grown;
      refused_are = going.refused_are;
      summary_is = going.summary_is;
    }
