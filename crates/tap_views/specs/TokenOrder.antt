-- The order of tokens.
use Rattle.std.specs.{Ordering.is_lt, Prelude.◌≡◌, Prelude.false, Prelude.List, Prelude.All}
use Rattle.std.specs.declared.cmp.Ordering.TheVariants.{Less}
use Rattle.tap_views.specs.{Token.token_cmp, declared.token.Token.Token}

-- the first token is not above the second
abbrev pub IsUpTo : Token → Token → Type 0
IsUpTo token other = is_lt (token_cmp other token) ≡ false

-- each of the tokens is below each of the others
abbrev pub AreBelow : List Token → List Token → Type 0
AreBelow tokens others = All (λ token. All (λ other. token_cmp token other ≡ Less) others) tokens
