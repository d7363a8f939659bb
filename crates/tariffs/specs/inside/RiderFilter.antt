-- Marks: what private functions alone cite.
use Rattle.std.specs.Map.{keys_of}
use Rattle.std.specs.Prelude.{◌≡◌, ℕ, Bool, true, All, List}
use Rattle.tap_views.specs.{Token.Fits, declared.token.Token.Token}
use Rattle.tariffs.specs.RiderFilter.{may_contain}

-- tokens of two numbers of eight bytes each, all of them marked
pub record MayContainAll (entries : List (Token × ℕ)) (marks : List Bool) : Type 0 where
  pub fits : All Fits (keys_of entries)
  pub marked : All (λ token. may_contain marks token ≡ true) (keys_of entries)
