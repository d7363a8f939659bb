use Rattle.std.proofs.Common.{◌^◌, ◌∙◌, ap}
use Rattle.line_forms.specs.{FormLaws.number_narrow, inside.Narrow.below}
use Rattle.line_forms.proofs.number.number_32_of.Goals as goal

pub returns : goal.returns
returns c = c.below_32.ensures ∙ ap (below (2 ^ 32)) c.number_of.ensures
    ∙ number_narrow c.args.digits.now
