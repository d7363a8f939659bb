-- The ledger of books.
use Rattle.std.specs.Prelude.{◌≡◌, ℕ, List, Option, Some, slice_get}
use Rattle.shard_book.specs.Book.{Book, all_entries}
use Rattle.tap_views.specs.declared.token.Token.{Token}
use Rattle.fare_texts.specs.Ledger.{IsLedgerOver}

-- the ledger of books: that of the entries of all of them, book by book, under the table of the
-- first
pub record IsLedgerOfBooks (books : List Book) (only : Option Token) (text : List ℕ) : Type 0 where
  pub first : Book
  pub holds_first : slice_get books 0 ≡ Some first
  pub over : IsLedgerOver first.table (all_entries books) only text
