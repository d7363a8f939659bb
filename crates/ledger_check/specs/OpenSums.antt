-- What is known of sums to which entries are added one by one.
use Rattle.histories.specs.{Sums.Sums, Sums.sums, SumsByKey.sums_by_token, TalliesByKey.AreTallied}
use Rattle.histories.specs.{Tally.sums_of_tally, declared.entry.Entry.Entry}
use Rattle.ledger_check.specs.declared.open_sums.{OpenSums.OpenSums, OpenToken.OpenToken}
use Rattle.std.specs.Prelude.{◌≡◌, ◌<◌, All, List, [], ◌++◌, Option, None, Some, length}
use Rattle.std.specs.declared.cmp.Ordering.TheVariants.{Less}
use Rattle.tap_views.specs.{Token.Fits, Token.token_cmp, declared.token.Token.Token}

-- The entries are those of lower tokens, with these sums, and then those of the held token, if it
-- has any yet.
pub record IsRunOf (entries : List Entry) (tokens : List (Token × Sums)) (held : OpenToken)
    : Type 0 where
  pub lower : List Entry
  pub run : List Entry
  pub both : entries ≡ lower ++ run
  pub fits : Fits held.token
  pub below : All (λ entry. token_cmp entry.token held.token ≡ Less) lower
  pub its : All (λ entry. entry.token ≡ held.token) run
  pub tally : sums_of_tally held.tally ≡ sums run
  pub tokens_are : tokens ≡ sums_by_token lower

-- the last token has entries, and those of the others have these sums
abbrev pub IsSplitAt : List Entry → List (Token × Sums) → Option OpenToken → Type 0
IsSplitAt entries tokens None = (entries ≡ []) × (tokens ≡ [])
IsSplitAt entries tokens (Some last) =
    (is : IsRunOf entries tokens last) × (0 < length is.run)

-- these entries were added
pub record AreOpenSums (entries : List Entry) (held : OpenSums) : Type 0 where
  pub split : IsSplitAt entries held.tokens held.last
  pub validators : AreTallied entries held.validators
  pub totals : sums_of_tally held.totals ≡ sums entries
