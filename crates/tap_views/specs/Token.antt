-- The 16 bytes of a token, kept as two numbers, and the order and equality of tokens.
use Rattle.std.specs.{Int.to_be_bytes, Int.w64, Ordering.nat_cmp, Ordering.ordering_then}
use Rattle.std.specs.Prelude.{ℕ, Bool, ◌^◌, ◌<◌, ◌==◌, ◌&&◌, List, ◌++◌}
use Rattle.std.specs.declared.cmp.Ordering.{Ordering}
use Rattle.tap_views.specs.declared.token.Token.{Token}

-- the bytes that the token was made of: the high number's, then the low number's
unfoldable pub bytes_of : Token → List ℕ
bytes_of token = to_be_bytes w64 token.high ++ to_be_bytes w64 token.low

-- the token is one of 16 bytes: each of its numbers has eight bytes
pub record Fits (token : Token) : Type 0 where
  pub high : token.high < 2 ^ 64
  pub low : token.low < 2 ^ 64

-- the order of tokens
abbrev pub token_cmp : Token → Token → Ordering
token_cmp a b = ordering_then (nat_cmp a.high b.high) (nat_cmp a.low b.low)

-- whether two tokens are the same
abbrev pub token_eq : Token → Token → Bool
token_eq a b = a.high == b.high && a.low == b.low
