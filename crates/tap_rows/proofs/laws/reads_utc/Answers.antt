use Rattle.tap_rows.proofs.UtcLemmas.{civil_moment, second_moment}
use Rattle.tap_rows.proofs.laws.reads_utc.Goals as goal

pub returns-clause-civil : goal.returns-clause-civil
returns-clause-civil c = λ moment text early is. civil_moment moment text early is

pub returns-clause-seconds : goal.returns-clause-seconds
returns-clause-seconds c = λ moment text early is. second_moment moment text early is
