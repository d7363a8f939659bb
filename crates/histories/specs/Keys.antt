-- Laws of the tokens by which sums are listed.
use Rattle.std.proofs.Common.{arith}
use Rattle.std.specs.Prelude.{◌≡◌, true}
use Rattle.tap_views.specs.{Token.token_eq, declared.token.Token.Token}

-- tokens that are equal by `==` are the same
pub same_token : (a b : Token) → token_eq a b ≡ true → a ≡ b
same_token a b h = grind arith
