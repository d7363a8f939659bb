-- The limits of windows, which every book keeps.
use Rattle.shard_book.specs.{Book.Book, Windows.WindowsKeepLimits}
use Rattle.tap_views.specs.declared.token.Token.{Token}

-- no window of any token has more paid rides than the ride limit or costs more than the ceiling
pub record BookKeepsLimits (book : Book) : Type 0 where
  pub windows : (token : Token) → WindowsKeepLimits book.table book.entries token
