use Rattle.std.proofs.lemmas.Bool.{eqb-true}
use Rattle.tap_rows.proofs.FieldLemmas.{no_first, no_second, no_third}
use Rattle.tap_rows.proofs.field.three_fields.Goals as goal

pub returns-in_default : goal.returns-in_default
returns-in_default c = no_first c.args.line.now c.in_default.ensures

pub returns-in_default-split_at : goal.returns-in_default-split_at
returns-in_default-split_at c =
    no_second c.args.line.now c.in-Some.first.now c.in-Some.rest.now c.in-Some.ensures.0
    c.in-Some.ensures.1 c.in_default-split_at.ensures

pub returns-then-contains : goal.returns-then-contains
returns-then-contains c =
    no_third c.args.line.now c.in-Some.first.now c.in-Some.rest.now
    c.in-Some-split_at.second.now c.in-Some-split_at.third.now c.in-Some.ensures.0
    c.in-Some.ensures.1 c.in-Some-split_at.ensures.0 c.in-Some-split_at.ensures.1
    (λ none. let found = c.if-contains.ensures.cases in
    none found.0 0 found.1 (eqb-true _ 44 (found.2 0)))
