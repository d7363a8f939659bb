use Rattle.fare_table.proofs.ElementLemmas.{mode-given, mode-none, one-entry}
use Rattle.fare_table.proofs.laws.modes_are_of_ranges.Goals as goal

pub returns-clause-some : goal.returns-clause-some
returns-clause-some c = mode-given

pub returns-clause-none : goal.returns-clause-none
returns-clause-none c = mode-none

pub returns-clause-one : goal.returns-clause-one
returns-clause-one c = one-entry
