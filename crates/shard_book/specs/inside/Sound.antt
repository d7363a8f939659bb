-- What always holds of a book's parts.
use Rattle.histories.specs.Entry.{TokensFit, taps_of}
use Rattle.histories.specs.{History.IsLegal, declared.entry.Entry.Entry}
use Rattle.shard_book.specs.Book.{AreOfShard}
use Rattle.shard_book.specs.declared.{accounts.Accounts.Accounts, packed.PackedEntry.PackedEntry}
use Rattle.shard_book.specs.inside.{Accounts.HasKept, Accounts.IsCounting, Counting.AreCounted}
use Rattle.shard_book.specs.inside.Packed.{ArePlaced, history_of, tokens_of}
use Rattle.std.specs.Prelude.{ℕ, ◌<◌, ◌≤◌, List}
use Rattle.tap_views.specs.declared.token.Token.{Token}
use Rattle.tariffs.specs.Fares.{Fares}

-- the accounts represent the taps of their tokens
unfoldable pub AreKept : Fares → Accounts → List Entry → Type 0
AreKept table accounts entries =
    (token : Token) → HasKept table accounts token (taps_of table token entries)

-- the history is legal, of tokens of 16 bytes and of the shard alone, and the accounts represent it
-- and, while they count, count it
pub record IsSound (table : Fares) (shard shards : ℕ) (accounts : Accounts) (entries : List Entry)
    : Type 0 where
  pub within : shard < shards
  pub few : shards ≤ 64
  pub legal : IsLegal table entries
  pub here : AreOfShard shard shards entries
  pub fits : TokensFit entries
  pub kept : AreKept table accounts entries
  pub counted : IsCounting accounts → AreCounted accounts entries

-- the packed history represents a sound one, and each of its entries has the place of an account
pub record IsBook (table : Fares) (shard shards : ℕ) (accounts : Accounts)
    (packed : List PackedEntry) : Type 0 where
  pub sound : IsSound table shard shards accounts (history_of (tokens_of accounts) packed)
  pub placed : ArePlaced (tokens_of accounts) packed
