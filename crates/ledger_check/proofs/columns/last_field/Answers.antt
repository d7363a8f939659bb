use Rattle.std.proofs.Common.{◌∙◌, ℕ, List, take, drop, Some, sym, ap, arith, eq-eqb, eqb-true, suc}
use Rattle.ledger_check.proofs.ColumnLemmas.{after_lacks, last_is, last_none}
use Rattle.ledger_check.proofs.LineLemmas.{cut_at, lacks-reads, rest_is}
use Rattle.ledger_check.specs.Columns.{last_field}
use Rattle.ledger_check.proofs.columns.last_field.Goals as goal

pub returns-in-Some : goal.returns-in-Some
returns-in-Some c =
    let at = c.in-Some.at in
    let text = c.args.text.now in
    let last = c.in-Some.ensures in
    let trailing = rest_is text at in
    let lacks = after_lacks 44 text at (λ k above within same. last.0.after k (omega arith) within
    (eq-eqb _ _ same)) in
    let split = cut_at 44 text at last.0.high (eqb-true _ _ last.1) in
    sym (ap last_field split ∙ last_is (take at text) (drop (suc at) text) lacks
    ∙ ap (λ (b : List ℕ). Some (take at text, b)) (sym trailing))

pub returns-in-None : goal.returns-in-None
returns-in-None c =
    sym (last_none c.args.text.now
    (lacks-reads 44 c.args.text.now (λ k within same. c.in-None.ensures k (omega arith) within
    (eq-eqb _ _ same))))
