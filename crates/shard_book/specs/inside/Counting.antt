-- What a book keeps of each token beside its account: the sums of its entries.
use Rattle.histories.specs.{Entry.own, Sums.Sums, Sums.sums, SumsByKey.token_of}
use Rattle.histories.specs.declared.entry.Entry.{Entry}
use Rattle.shard_book.specs.declared.accounts.Accounts.{Accounts}
use Rattle.shard_book.specs.inside.Accounts.{kept_at, counted}
use Rattle.std.specs.{List.IsDistinct, Map.keys_of, Prelude.◌≡◌, Prelude.ℕ, Prelude.◌<◌}
use Rattle.std.specs.{Prelude.List, Prelude.◌++◌, Prelude.map, Prelude.All, Set.is_member}
use Rattle.tap_views.specs.{Shards.shard_of_token, Token.bytes_of, Token.token_eq}
use Rattle.tap_views.specs.declared.token.Token.{Token}

-- for each token the sums of its own entries are kept, those of nothing if it has none
pub record AreCounted (accounts : Accounts) (entries : List Entry) : Type 0 where
  pub sums : (token : Token) → counted (kept_at accounts token) ≡ sums (own token entries)

-- each token of the entries, once, with the sums of its own entries, in any order
pub record AreSummed (entries : List Entry) (pairs : List (Token × Sums)) : Type 0 where
  pub each : All (λ pair. pair.1 ≡ sums (own pair.0 entries)) pairs
  pub once : IsDistinct token_eq (keys_of pairs)
  pub keys : (token : Token)
      → is_member token_eq (keys_of pairs) token ≡ is_member token_eq (map token_of entries) token

-- each token of the entries, with the sums of its own entries, was appended to a list
pub record AddsSums (entries : List Entry) (before after : List (Token × Sums)) : Type 0 where
  pub added : List (Token × Sums)
  pub summed : AreSummed entries added
  pub appended : after ≡ before ++ added

-- the shards of the entries are below a number
pub record AreBelow (shards lowest : ℕ) (entries : List Entry) : Type 0 where
  pub each : All (λ entry. shard_of_token (bytes_of entry.token) shards < lowest) entries
