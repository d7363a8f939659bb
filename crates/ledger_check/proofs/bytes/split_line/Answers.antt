use Rattle.std.proofs.Common.{sym, subst, arith, eq-eqb, eqb-true}
use Rattle.ledger_check.specs.Lines.{IsLine}
use Rattle.ledger_check.proofs.LineLemmas.{lacks-reads, line_is}
use Rattle.ledger_check.proofs.bytes.split_line.Goals as goal

pub returns-in-Some-clause-some : goal.returns-in-Some-clause-some
returns-in-Some-clause-some c =
    let at = c.in-Some.at in
    let text = c.args.text.now in
    let first = c.in-Some.ensures in (
      subst IsLine (sym c.split_at.ensures.front)
          (line_is text at first.0.high (eqb-true _ _ first.1)
          (λ k below same. first.0.before k (omega arith) below (eq-eqb _ _ same))),
      c.split_at.ensures.by_index.0,
    )

pub returns-in-None-clause-none : goal.returns-in-None-clause-none
returns-in-None-clause-none c =
    lacks-reads 10 c.args.text.now
    (λ k within same. c.in-None.ensures k (omega arith) within (eq-eqb _ _ same))
