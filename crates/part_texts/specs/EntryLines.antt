-- The line of a ledger's entry, as far as parts are merged by it.
use Rattle.ledger_fields.specs.{Lines.row_in, Rows.Row}
use Rattle.report_texts.specs.Forms.{token_read}
use Rattle.std.specs.Prelude.{ℕ, List, Option, Some, None, option_map}
use Rattle.tap_views.specs.declared.token.Token.{Token}

abbrev pub first_of : {A B : Type 0} → A × B → A
first_of parts = parts.0

abbrev pub token_with : Option Row → List ℕ → Option Token
token_with None line = None
token_with (Some row) line = option_map first_of (token_read line)

-- the token in front of the line, if the line has the form of a ledger's line
abbrev pub entry_token_in : List ℕ → Option Token
entry_token_in line = token_with (row_in line) line
