use Rattle.std.proofs.Common.{Option, unwrap_or, ap, ◌∙◌}
use Rattle.histories.specs.declared.entry.Entry.{Entry}
use Rattle.fare_service.specs.inside.Spots.{entry_at_spot, no_entry}
use Rattle.fare_service.proofs.spot.Spot.entry.Goals as goal

pub returns-in-Some : goal.returns-in-Some
unfolding entry_at_spot
returns-in-Some c = ap (λ (found : Option Entry). unwrap_or found no_entry) c.in-Some.ensures

pub returns-in-None : goal.returns-in-None
unfolding entry_at_spot
returns-in-None c = c.nothing.ensures
    ∙ ap (λ (found : Option Entry). unwrap_or found no_entry) c.in-None.ensures
