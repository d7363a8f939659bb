-- The texts over a history: the report of uploads, and the statement of a token.
use Rattle.fare_texts.specs.StatementText.{IsStatementText}
use Rattle.histories.specs.{Statement.IsStatement, Sums.sums}
use Rattle.histories.specs.SumsByKey.{sums_by_validator, sums_by_token}
use Rattle.histories.specs.declared.{entry.Entry.Entry, statement.Statement.Statement}
use Rattle.report_texts.specs.Report.{report}
use Rattle.std.specs.Prelude.{◌≡◌, ℕ, List}
use Rattle.tap_views.specs.UploadEnds.{ArePlainEnds}
use Rattle.tap_views.specs.declared.{token.Token.Token, upload_end.UploadEnd.UploadEnd}
use Rattle.tariffs.specs.Fares.{Fares}

-- the text of a token's statement over a history
pub record IsStatementOver (fares : Fares) (history : List Entry) (token : Token) (text : List ℕ)
    : Type 0 where
  pub statement : Statement
  pub of_history : IsStatement fares history token statement
  pub shown : IsStatementText fares statement text

-- the text of a report over a history of uploads
pub record IsReportOver (uploads : List (List ℕ)) (history : List Entry) (text : List ℕ)
    : Type 0 where
  pub ends : List UploadEnd
  pub of_uploads : ArePlainEnds uploads ends
  pub shown : text ≡ report ends (sums history) (sums_by_validator history) (sums_by_token history)
