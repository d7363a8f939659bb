-- The statement of one token.
use Rattle.fare_caps.specs.{CapMeanings.capped_rules_of, CappedReplies.capped_window}
use Rattle.histories.specs.{Entry.own, Entry.taps_of, Sums.sums, Sums.sums_of}
use Rattle.histories.specs.declared.{entry.Entry.Entry, statement.Statement.Statement}
use Rattle.std.specs.Prelude.{◌≡◌, List}
use Rattle.tap_views.specs.{Token.bytes_of, declared.token.Token.Token}
use Rattle.tariffs.specs.Fares.{Fares}

-- the token's own entries, their sums, and the last window of its taps
pub record IsStatement (table : Fares) (entries : List Entry) (name : Token) (statement : Statement)
    : Type 0 where
  pub token : statement.token ≡ name
  pub lines : statement.lines ≡ own name entries
  pub totals : sums_of statement.totals ≡ sums (own name entries)
  pub window : statement.window
      ≡ capped_window (capped_rules_of table (bytes_of name)) (taps_of table name entries)
