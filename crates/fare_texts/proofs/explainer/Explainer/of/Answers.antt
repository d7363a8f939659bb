use Rattle.std.proofs.Common.{refl}
use Rattle.fare_texts.proofs.explainer.Explainer.of.Goals as goal

pub returns-clause-explained : goal.returns-clause-explained
returns-clause-explained c =
    λ fares. record {
      holds = c.fresh.ensures.holds fares _;
      counted = refl;
      digits = c.digits_of.ensures;
    }
