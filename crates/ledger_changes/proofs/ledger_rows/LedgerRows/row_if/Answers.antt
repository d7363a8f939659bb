use Rattle.recorded_lines.specs.Texts.{calls_of, left}
use Rattle.ledger_changes.proofs.Readings.{wrong_rows}
use Rattle.ledger_changes.proofs.ledger_rows.LedgerRows.row_if.Goals as goal

pub returns-in-Err-clause-wrong : goal.returns-in-Err-clause-wrong
returns-in-Err-clause-wrong c = λ whole can.
    let self = c.args.self.now in
    wrong_rows self.row c.is_none.result self.bill (calls_of c.read_row.new.from) self.number
    c.in-Some.number (left self.from whole) c.in-Err.fault c.is_none.ensures c.if-is_none.false
    c.in-Some.ensures.1 (c.in-Err.ensures.read whole can)
