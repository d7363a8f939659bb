use Rattle.fare_table.proofs.PayLemmas.{one-key, pays-terms}
use Rattle.fare_table.proofs.laws.terms_are_of_classes.Goals as goal

pub returns-clause-terms : goal.returns-clause-terms
returns-clause-terms c = pays-terms

pub returns-clause-one : goal.returns-clause-one
returns-clause-one c = one-key
