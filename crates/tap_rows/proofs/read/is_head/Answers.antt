use Rattle.std.proofs.Common.{◌∙◌}
use Rattle.tap_rows.proofs.FieldLemmas.{names_of}
use Rattle.tap_rows.proofs.read.is_head.Goals as goal
use Rattle.tap_rows.proofs.read.is_head.Goals.{then-represents, else-represents}

pub returns-else-represents-2 : goal.returns-else-represents-2
returns-else-represents-2 c = (
  λ positive. let no = c.if-represents-2.false in absurd (cc (positive, no)),
  λ is.
      let names = names_of c.args.line.now c.in-Some.token.now c.in-Some.validator.now
      c.in-Some.moment.now c.in-Some.ensures is in
      elim c.if-represents.branch [
        | then-represents w ↦ w.value-is ∙ w.represents-then-represents.ensures.1 names.1
        | else-represents w ↦ w.value-is ∙ c.represents.ensures.1 names.0
      ],
)
