use Rattle.std.proofs.Common.{◌∙◌, ℕ, List, ap, length, take}
use Rattle.std.specs.Str.{bytes_eq}
use Rattle.ledger_check.proofs.columns.has_plain_head.Goals as goal

pub returns : goal.returns
returns c = c.starts_with.ensures.value
    ∙ ap (λ (head : List ℕ). bytes_eq head (take (length head) c.args.text.now))
    (c.as_bytes.ensures.value ∙ c.head_line.ensures)
