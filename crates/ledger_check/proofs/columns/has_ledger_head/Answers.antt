use Rattle.std.proofs.Common.{◌∙◌, Bool, ap, sym}
use Rattle.std.specs.Prelude.{◌||◌}
use Rattle.ledger_check.specs.Columns.{has_traced_head}
use Rattle.ledger_check.proofs.columns.has_ledger_head.Goals as goal

pub returns-else-has_plain_head : goal.returns-else-has_plain_head
returns-else-has_plain_head c = c.has_traced_head.ensures
    ∙ ap (λ (b : Bool). b || has_traced_head c.args.text.now)
    (sym (sym c.has_plain_head.ensures ∙ c.if-has_plain_head.false))
