-- The sums of a ledger's entries.
use Rattle.histories.specs.{Shown.validator_sum, Sums.sums, Sums.sums_of, SumsByKey.sums_by_token}
use Rattle.histories.specs.{SumsByKey.sums_by_validator, declared.entry.Entry.Entry}
use Rattle.ledger_check.specs.declared.open_sums.EntrySums.{EntrySums}
use Rattle.std.specs.Prelude.{◌≡◌, List, map}

-- these are the sums of the entries: by token, by validator and of all
pub record AreSumsOf (entries : List Entry) (made : EntrySums) : Type 0 where
  pub tokens : made.tokens ≡ sums_by_token entries
  pub validators : map validator_sum made.validators.items ≡ sums_by_validator entries
  pub totals : sums_of made.totals ≡ sums entries
