use Rattle.fare_caps.proofs.CeilingLemmas.{keep-ceilings}
use Rattle.fare_caps.proofs.laws.caps_keep_their_ceilings.Goals as goal

pub returns : goal.returns
returns c = keep-ceilings
