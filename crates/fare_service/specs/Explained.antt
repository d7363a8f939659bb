-- The explained statement of a token of books.
use Rattle.fare_texts.specs.{ExplainedForms.IsExplainedOver, declared.form.Form.Form}
use Rattle.shard_book.specs.Book.{Book, all_entries}
use Rattle.std.specs.Prelude.{◌≡◌, ℕ, List, Some, slice_get}
use Rattle.tap_views.specs.declared.token.Token.{Token}

-- the explained statement of a token over books, in this form: that over the entries of all of
-- them, under the table of the first
pub record IsExplainedOf (form : Form) (books : List Book) (token : Token) (text : List ℕ) : Type 0 where
  pub first : Book
  pub holds_first : slice_get books 0 ≡ Some first
  pub over : IsExplainedOver form first.table (all_entries books) token text
