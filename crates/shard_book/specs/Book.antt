-- What contracts see of a book.
use Rattle.account_rule.specs.declared.reply.Reply.{Reply}
use Rattle.histories.specs.{Entry.IsEntryOf, Entry.reply_of, declared.entry.Entry.Entry}
use Rattle.std.specs.Prelude.{◌≡◌, ℕ, List, [], ◌∷◌, ◌++◌, All, flat_map, slice_get, Some}
use Rattle.tap_views.specs.{Layout.Tap, Shards.shard_of_token, Token.bytes_of}
use Rattle.tariffs.specs.Fares.{Fares}

-- a book: its table, its shard and the number of shards, and its whole history
pub record Book : Type 0 where
  pub table : Fares
  pub shard : ℕ
  pub shards : ℕ
  pub entries : List Entry

-- each entry's token is of the shard
pub record AreOfShard (shard shards : ℕ) (entries : List Entry) : Type 0 where
  pub each : All (λ entry. shard_of_token (bytes_of entry.token) shards ≡ shard) entries

-- so it is of the book of each shard, which is its place in the list
abbrev pub EachBook : (ℕ → Book → Type 0) → List Book → Type 0
EachBook P books = (shard : ℕ) (book : Book) → slice_get books shard ≡ Some book → P shard book

-- the book with more entries
abbrev pub with_entries : Book → List Entry → Book
with_entries book more =
    record {
      table = book.table;
      shard = book.shard;
      shards = book.shards;
      entries = book.entries ++ more;
    }

-- the entries of several books, book by book
abbrev pub all_entries : List Book → List Entry
all_entries books = flat_map (λ book. book.entries) books

-- exactly one entry was appended: of the tap, with the reply
pub record PostsTap (book after : Book) (tap : Tap) (reply : Reply) : Type 0 where
  pub entry : Entry
  pub of_tap : IsEntryOf tap entry
  pub replied : reply_of entry ≡ reply
  pub appended : after ≡ with_entries book (entry ∷ [])
