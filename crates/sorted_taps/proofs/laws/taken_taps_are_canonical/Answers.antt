use Rattle.sorted_taps.proofs.Taking.{taken_merged}
use Rattle.sorted_taps.proofs.laws.taken_taps_are_canonical.Goals as goal

pub returns : goal.returns
returns c = λ files started end taps is taken at_end.
    let merged = taken_merged files started end taps is taken at_end in
    (merged.lists, merged.sorted, merged.canonical)
