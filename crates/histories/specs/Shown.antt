-- What the sums of a key show.
use Rattle.histories.specs.Sums.{Sums, sums_of}
use Rattle.histories.specs.declared.sums.{TokenSum.TokenSum, ValidatorSum.ValidatorSum}
use Rattle.std.specs.Prelude.{ℕ}
use Rattle.tap_views.specs.declared.token.Token.{Token}

-- a validator with its sums
abbrev pub validator_sum : ValidatorSum → ℕ × Sums
validator_sum sum = (sum.validator, sums_of sum.totals)

-- a token with its sums
abbrev pub token_sum : TokenSum → Token × Sums
token_sum sum = (sum.token, sums_of sum.totals)
