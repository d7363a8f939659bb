use Rattle.std.proofs.Common.{◌∙◌, ap, sym}
use Rattle.std.specs.Io.BufRead.{drop_through, first_line}
use Rattle.tap_rows.proofs.WrittenLemmas.{all_dropped, dropped, first_line_of, only_line}
use Rattle.tap_rows.proofs.read.split_line.Goals as goal

pub returns-in-Some-clause-line : goal.returns-in-Some-clause-line
returns-in-Some-clause-line c =
    let is = c.in-Some.ensures in
    c.without_last.ensures
    ∙ sym (ap first_line is.1 ∙ first_line_of c.in-Some.line.now c.in-Some.rest.now is.0)

pub returns-in-Some-clause-rest : goal.returns-in-Some-clause-rest
returns-in-Some-clause-rest c =
    let is = c.in-Some.ensures in
    sym (ap (drop_through 10) is.1 ∙ dropped c.in-Some.line.now c.in-Some.rest.now is.0)

pub returns-in-None-clause-line : goal.returns-in-None-clause-line
returns-in-None-clause-line c = sym (only_line c.args.text.now c.in-None.ensures)

pub returns-in-None-clause-rest : goal.returns-in-None-clause-rest
returns-in-None-clause-rest c = sym (all_dropped c.args.text.now c.in-None.ensures)
