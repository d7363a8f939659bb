use Rattle.std.proofs.Common.{subst}
use Rattle.std.proofs.lemmas.{Bool.Decides.Decides-eqb, Slice.Eq.slice_eq-Decides}
use Rattle.tap_rows.proofs.FieldLemmas.{one_value}
use Rattle.tap_rows.specs.Fields.{FieldRepresents}
use Rattle.tap_rows.proofs.field.represents.Goals as goal

pub returns-in-Some : goal.returns-in-Some
returns-in-Some c =
    let decides = slice_eq-Decides Decides-eqb c.in-Some.found.now c.args.value.now c.eq.result
    c.eq.ensures in (
      λ same. subst (λ value. FieldRepresents c.args.field.now value) (decides.0 same)
          c.in-Some.ensures,
      λ holds. decides.1
          (one_value c.args.field.now c.in-Some.found.now c.args.value.now c.in-Some.ensures
          holds),
    )

pub returns-in-None : goal.returns-in-None
returns-in-None
    c = (λ no. absurd (cc (no)), λ holds. absurd (c.in-None.ensures c.args.value.now holds))
