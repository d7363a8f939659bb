-- Marks of tokens, each at the place that the token's last bits give.
use Rattle.std.specs.Prelude.{ℕ, ◌-◌, Bool, false, List, bit_and, length, slice_index_or}
use Rattle.tap_views.specs.declared.token.Token.{Token}

-- the place of the token's mark among a number of them that is a power of two
abbrev pub filter_bit : Token → ℕ → ℕ
filter_bit token marks = bit_and token.low (marks - 1)

-- the token's mark, and false if there are no marks
abbrev pub may_contain : List Bool → Token → Bool
may_contain marks token = slice_index_or marks (filter_bit token (length marks)) false
