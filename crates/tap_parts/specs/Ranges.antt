-- Ranges of tokens, each between two bounds. Tokens and bounds are compared as big-endian numbers.
use Rattle.std.specs.Prelude.{ℕ, List, filter, length, nat_le}
use Rattle.tap_views.specs.Layout.{num}

-- the range of a token: how many of the bounds are not above it
abbrev pub range_of_token : List ℕ → List ℕ → ℕ
range_of_token bounds token = length (filter (λ bound. nat_le bound (num token)) bounds)
