use Rattle.std.proofs.Common.{[], ◌∷◌}
use Rattle.fare_texts.proofs.MomentLemmas.{pairs_at}
use Rattle.fare_texts.proofs.pairs.pair.Goals as goal

pub returns : goal.returns
returns c =
    let digits = pairs_at c.args.number c.requires in
    λ i. digits.0 i ∷ digits.1 i ∷ []
