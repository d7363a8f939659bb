use Rattle.fare_table.proofs.RideLemmas.{pays-on, rides-give}
use Rattle.fare_table.proofs.laws.rides_are_of_classes.Goals as goal

pub returns-clause-pays : goal.returns-clause-pays
returns-clause-pays c = pays-on

pub returns-clause-gives : goal.returns-clause-gives
returns-clause-gives c = rides-give
