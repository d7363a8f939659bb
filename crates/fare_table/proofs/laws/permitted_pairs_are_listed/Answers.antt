use Rattle.fare_table.proofs.{PairLemmas.permitted-listed, PriceLemmas.listed-price}
use Rattle.fare_table.proofs.laws.permitted_pairs_are_listed.Goals as goal

pub returns-clause-pairs : goal.returns-clause-pairs
returns-clause-pairs c = permitted-listed

pub returns-clause-prices : goal.returns-clause-prices
returns-clause-prices c = listed-price
