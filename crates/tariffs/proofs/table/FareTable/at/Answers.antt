use Rattle.std.proofs.Common.{arith, sym, ap, ◌∙◌}
use Rattle.tariffs.specs.Fares.{Fares}
use Rattle.tariffs.proofs.table.FareTable.at.Goals as goal

pub returns-then-is_first_at-clause-meaning : goal.returns-then-is_first_at-clause-meaning
returns-then-is_first_at-clause-meaning c =
    ap (λ t. t.meaning) c.deref.ensures
    ∙ ap (λ (fares : Fares). fares.meaning) c.self.view_is
    ∙ sym (c.is_first_at.ensures c.if-is_first_at.true c.args.moment (omega arith))
