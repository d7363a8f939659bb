-- Columns: what comes before a comma or a line feed.
use Rattle.std.specs.Prelude.{◌≡◌, ◌==◌, ◌||◌, ℕ, Bool, true, List}
use Rattle.std.specs.List.{position_or_len}
use Rattle.line_forms.specs.Forms.{BeginsWith, Reader, none_stops, read_before, value_if}

-- a column ends at the byte: it is a comma or a line feed
abbrev pub ends_column : ℕ → Bool
ends_column byte = (byte == 44) || (byte == 10)

-- no byte of the text ends a column
abbrev pub is_column : List ℕ → Bool
is_column text = none_stops ends_column text

-- the text is empty, or a column ends at its first byte
abbrev pub BeginsAfterColumn : List ℕ → Type 0
BeginsAfterColumn text = BeginsWith ends_column text

-- how many bytes the column at the front of the text has
abbrev pub column_in : List ℕ → ℕ
column_in text = position_or_len ends_column text

-- the column at the front of the text, if it passes the test
abbrev pub column_where : (List ℕ → Bool) → Reader (List ℕ)
column_where test = read_before ends_column (λ column. value_if (test column) column)

-- the text is this column, which passes the test
pub record IsColumn (test : List ℕ → Bool) (column text : List ℕ) : Type 0 where
  pub shown : text ≡ column
  pub plain : is_column column ≡ true
  pub passes : test column ≡ true
