-- Sums of a history by the validators and by the tokens of its entries.
use Rattle.histories.specs.Entry.{is_at, own}
use Rattle.histories.specs.{Increasing.increasing, Sums.Sums, Sums.sums, declared.entry.Entry.Entry}
use Rattle.std.specs.{Ordering.nat_cmp, Prelude.ℕ, Prelude.List, Prelude.map, Prelude.filter}
use Rattle.tap_views.specs.{Token.token_cmp, declared.token.Token.Token}

-- the validator of an entry
abbrev pub validator_of : Entry → ℕ
validator_of entry = entry.validator

-- the token of an entry
abbrev pub token_of : Entry → Token
token_of entry = entry.token

-- the validators of a history, increasing, each once
unfoldable pub validators : List Entry → List ℕ
validators entries = increasing nat_cmp (map validator_of entries)

-- the tokens of a history, increasing, each once
unfoldable pub tokens : List Entry → List Token
tokens entries = increasing token_cmp (map token_of entries)

-- the entries of one validator, in history order
unfoldable pub entries_of_validator : ℕ → List Entry → List Entry
entries_of_validator validator entries = filter (is_at validator) entries

-- the validators, increasing, each with the sums of its entries
unfoldable pub sums_by_validator : List Entry → List (ℕ × Sums)
sums_by_validator entries =
    map (λ validator. (validator, sums (entries_of_validator validator entries)))
    (validators entries)

-- the tokens, increasing, each with the sums of its own entries
unfoldable pub sums_by_token : List Entry → List (Token × Sums)
sums_by_token entries = map (λ token. (token, sums (own token entries))) (tokens entries)
