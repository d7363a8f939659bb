use Rattle.fare_caps.proofs.OneMoreLemmas.{never-dearer}
use Rattle.fare_caps.proofs.laws.one_more_cap_is_never_dearer.Goals as goal

pub returns : goal.returns
returns c = never-dearer
