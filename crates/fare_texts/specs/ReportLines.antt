-- Lines of a report: the head of a section, and the sums of a validator and of a token.
use Rattle.fare_texts.specs.Counts.{counts_text}
use Rattle.hex.specs.Hex.{encode_lower}
use Rattle.histories.specs.Sums.{Sums}
use Rattle.std.specs.{Fmt.decimal, Prelude.ℕ, Prelude.List, Prelude.◌++◌, Prelude.codes}
use Rattle.tap_views.specs.{Token.bytes_of, declared.token.Token.Token}

-- a word, a number and the end of the line, as `validators 3`
abbrev pub number_line : List ℕ → ℕ → List ℕ
number_line word number = word ++ (decimal number ++ codes "\n")

-- `validator 9 taps 1 paid 0 ..`
abbrev pub validator_line : ℕ × Sums → List ℕ
validator_line sum = codes "validator " ++ (decimal sum.0 ++ (codes " " ++ counts_text sum.1))

-- `token 000000000000000000000000000000a1 taps 4 paid 2 ..`
abbrev pub token_line : Token × Sums → List ℕ
token_line sum =
    codes "token " ++ (encode_lower (bytes_of sum.0) ++ (codes " " ++ counts_text sum.1))
