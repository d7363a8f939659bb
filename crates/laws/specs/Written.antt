-- Which entries have a line in a written ledger, in its order, and what they have to be.
use Rattle.fare_texts.specs.Ledger.{ledger_tokens}
use Rattle.histories.specs.{Entry.own, History.IsLegal, declared.entry.Entry.Entry}
use Rattle.ledger_check.specs.{Ledger.IsPostable, Lines.lines_of}
use Rattle.shard_book.specs.Book.{AreOfShard, Book, EachBook}
use Rattle.std.specs.{Char.is_ascii_lowercase, List.AllByRecursion, List.list_all}
use Rattle.std.specs.Prelude.{◌≡◌, ℕ, ◌^◌, ◌≤◌, true, List, length, flat_map, Option}
use Rattle.tap_views.specs.declared.token.Token.{Token}
use Rattle.tariffs.specs.Fares.{Fares}

-- the entries that have a line in a ledger: token by token, those of each in history order
abbrev pub reported_entries : Option Token → List Entry → List Entry
reported_entries only history = flat_map (λ token. own token history) (ledger_tokens only history)

-- each name is of letters `a` to `z`
abbrev pub AreLetters : List (List ℕ) → Type 0
AreLetters names = AllByRecursion (λ name. list_all is_ascii_lowercase name ≡ true) names

-- the names of modes and caps are of letters, as those of every table that was read
pub record HasLetterNames (fares : Fares) : Type 0 where
  pub modes : AreLetters fares.meaning.modes
  pub caps : AreLetters fares.meaning.cap_names

-- no line of the text has more than 255 bytes
abbrev pub AreShort : List ℕ → Type 0
AreShort text = AllByRecursion (λ line. length line ≤ 255) (lines_of text)

-- each token's own entries are a legal history, all can be posted, and there are not too many
pub record CanBePrinted (fares : Fares) (only : Option Token) (history : List Entry) : Type 0 where
  pub legal : (token : Token) → IsLegal fares (own token history)
  pub postable : AllByRecursion IsPostable history
  pub names : HasLetterNames fares
  pub few : length (reported_entries only history) ≤ 2 ^ 62

-- books under one table, each of its own of `shards` shards, and with a legal history
abbrev pub AreBooksOf : Fares → ℕ → List Book → Type 0
AreBooksOf fares shards books = EachBook (λ shard book. (book.table ≡ fares)
    × AreOfShard shard shards book.entries × IsLegal fares book.entries) books
