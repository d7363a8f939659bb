use Rattle.fare_caps.proofs.NoCapsLemmas.{later-nothing}
use Rattle.fare_caps.proofs.laws.later_taps_change_nothing.Goals as goal

pub returns : goal.returns
returns c = later-nothing
