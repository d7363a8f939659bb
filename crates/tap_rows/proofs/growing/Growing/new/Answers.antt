use Rattle.tap_rows.proofs.GrowingLemmas.{grown_first}
use Rattle.tap_rows.proofs.growing.Growing.new.Goals as goal

pub returns : goal.returns
returns c = grown_first _ c.new.ensures.items c.in_ok-with_capacity.ensures.items
