use Rattle.std.proofs.Common.{◌∙◌, ◌++◌, ℕ, List, ap, subst}
use Rattle.class_names.specs.Names.{class_by}
use Rattle.settled_bills.specs.inside.Puts.{Puts}
use Rattle.settled_bills.proofs.TapsExplained.{explains_as}
use Rattle.settled_bills.proofs.traced_ledger.Room.put.Goals as goal

pub returns : goal.returns
returns c =
    explains_as _ _ _ _ _ _ c.in_ok-explain_tap.ensures (λ l is.
    subst (λ (line : List ℕ). Puts (class_by c.args.names.now) c.args.self.now.lines.items
    c.args.left.now line c.put_lines.new.text.items c.in_ok-rest.rest.now)
    (c.as_bytes.ensures.value ∙ is ∙ ap (λ (front : List ℕ). front ++ l) c.clear.ensures.bytes)
    c.in_ok-rest.ensures)
