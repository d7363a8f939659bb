-- What is printed of an outcome.
use Rattle.fare_service.specs.Outcomes.{OutcomeView}
use Rattle.fare_texts.specs.StatementText.{IsStatementText}
use Rattle.histories.specs.{Statement.IsStatement, Sums.sums, SumsByKey.sums_by_validator}
use Rattle.histories.specs.{SumsByKey.sums_by_token, declared.statement.Statement.Statement}
use Rattle.report_texts.specs.Report.{report}
use Rattle.shard_book.specs.Book.{Book, all_entries}
use Rattle.std.specs.Prelude.{◌≡◌, ℕ, List, length, slice_get, Some}
use Rattle.tap_views.specs.{Shards.shard_of_token, Token.bytes_of}
use Rattle.tap_views.specs.declared.{token.Token.Token, upload_end.UploadEnd.UploadEnd}

-- the report of an outcome with these ends of uploads: the ends, and the sums of all entries of its
-- books
abbrev pub report_with : List UploadEnd → OutcomeView → List ℕ
report_with ends o =
    report ends (sums (all_entries o.books)) (sums_by_validator (all_entries o.books))
    (sums_by_token (all_entries o.books))

-- the report of an outcome: the end of each upload, and the sums of all entries of its books
abbrev pub report_of : OutcomeView → List ℕ
report_of o = report_with o.ends o

-- the text of a token's statement, which the book of its shard gives
pub record IsStatementOf (o : OutcomeView) (token : Token) (text : List ℕ) : Type 0 where
  pub book : Book
  pub at : slice_get o.books (shard_of_token (bytes_of token) (length o.books)) ≡ Some book
  pub statement : Statement
  pub of_book : IsStatement book.table book.entries token statement
  pub shown : IsStatementText book.table statement text
