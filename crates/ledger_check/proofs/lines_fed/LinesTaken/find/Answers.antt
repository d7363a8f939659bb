use Rattle.std.proofs.Common.{refl, arith}
use Rattle.ledger_check.proofs.FullCheckLemmas.{found_first, found_judged, found_long, kept_line}
use Rattle.ledger_check.proofs.lines_fed.LinesTaken.find.Goals as goal

pub returns-then-self-eq0-clause-found : goal.returns-then-self-eq0-clause-found
returns-then-self-eq0-clause-found c = λ taken whole lines line same.
    found_first c.args.table.now c.args.self.now taken c.args.line.now whole c.first_finding.result
    lines c.if-self-eq0.true same c.first_finding.ensures

pub returns-then-line-gt-MAX_LINE_BYTES-clause-found :
    goal.returns-then-line-gt-MAX_LINE_BYTES-clause-found
returns-then-line-gt-MAX_LINE_BYTES-clause-found c = λ taken whole lines line same.
    found_long c.args.table.now c.args.self.now taken c.args.line.now whole _ lines same
    c.if-line-gt-MAX_LINE_BYTES.true refl refl

pub judge-requires-clause-line : goal.judge-requires-clause-line
judge-requires-clause-line c = kept_line c.args.line.now (omega arith) c.requires.line

pub judge-requires-clause-run : goal.judge-requires-clause-run
judge-requires-clause-run c =
    let lines = c.requires.taken.1 in
    (lines.run, lines.explainer, omega (arith, lines.few, lines.sums.few))

pub returns-clause-found : goal.returns-clause-found
returns-clause-found c = λ taken whole lines line same.
    found_judged c.args.table.now c.args.self.now c.judge.new.self taken c.args.line.now whole
    c.in_ok-finding.finding lines (omega arith) same (omega arith)
    (c.in_ok-finding.ensures lines.run lines.explainer
    (omega (arith, lines.few, lines.sums.few)))
