-- Entries in order of token. Private functions alone cite this.
use Rattle.fare_texts.specs.Lines.{Nondecreasing}
use Rattle.histories.specs.{Entry.own, declared.entry.Entry.Entry}
use Rattle.std.specs.{List.Sorted.IsPermutation, Prelude.◌≡◌, Prelude.List}
use Rattle.tap_views.specs.declared.token.Token.{Token}

-- the list has these entries in order of token, and those of each token as they were
pub record IsByToken (entries list : List Entry) : Type 0 where
  pub moved : IsPermutation entries list
  pub nondecreasing : Nondecreasing list
  pub kept : (token : Token) → own token list ≡ own token entries
