use Rattle.std.proofs.Common.{◌∙◌, sym, arith}
use Rattle.std.proofs.lemmas.Bool.Decides.{nat_tests}
use Rattle.ledger_check.specs.FullChecks.{taps_from}
use Rattle.ledger_check.proofs.CheckerLemmas.{found_wrong, right_more}
use Rattle.ledger_check.proofs.checker.Checker.take.Goals as goal

pub end_line-requires-clause-fed : goal.end_line-requires-clause-fed
end_line-requires-clause-fed c = let is = c.requires.fed.2 in
    (c.requires.fed.0, is.taken, is.fed)

pub returns-then-one_wrong-eq0 : goal.returns-then-one_wrong-eq0
returns-then-one_wrong-eq0 c = λ text valid is.
    let took = c.in_ok-finding.ensures text is.taken is.fed in
    right_more c.args.table.now c.args.self.now _ c.args.balance.now _ text c.args.line.now valid is
    took.0 c.in_ok-finding.finding took.1 (sym c.one_wrong.ensures ∙ c.if-one_wrong-eq0.true)
    (c.subtract_tap.ensures valid (taps_from is.taken) is.subtracted)

pub returns : goal.returns
returns c = λ text valid is.
    let took = c.in_ok-finding.ensures text is.taken is.fed in
    found_wrong c.args.table.now c.args.self.now _ c.args.balance.now c.args.balance.now text
    c.args.line.now valid is took.0 c.in_ok-finding.finding took.1
    (λ none. first_of (omega (arith, none, c.one_wrong.ensures), grind (arith, nat_tests, none)))
    c.in_ok-verdict.verdict c.in_ok-verdict.ensures
