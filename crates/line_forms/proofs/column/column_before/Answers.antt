use Rattle.std.proofs.Common.{arith, sym}
use Rattle.line_forms.specs.Columns.{ends_column}
use Rattle.std.proofs.lemmas.{Bool.false_from_ne_true, List.Sums.position_or_len_is}
use Rattle.line_forms.proofs.column.column_before.Goals as goal

pub returns-in-Some-clause-value : goal.returns-in-Some-clause-value
returns-in-Some-clause-value c =
    let first = c.in-Some.ensures.0 in
    let high = first.high in
    sym (position_or_len_is ends_column c.args.text.now c.in-Some.at 0 (omega (arith, high))
    (λ k low. false_from_ne_true _ (first.before k (omega arith) low)) (λ within. c.in-Some.ensures.1))

pub returns-in-None-clause-value : goal.returns-in-None-clause-value
returns-in-None-clause-value c =
    let text = c.args.text.now in
    sym (position_or_len_is ends_column text _ 0 (omega arith)
    (λ k low. false_from_ne_true _ (c.in-None.ensures k (omega arith) low)) (λ within. absurd (omega (arith, within))))
