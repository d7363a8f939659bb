-- A tap table as CSV: a header line, and then a line for each tap. A line ends with a line feed,
-- or with carriage return and line feed; the last may lack its end.
use Rattle.std.specs.Io.BufRead.{first_line, drop_through}
use Rattle.std.specs.Prelude.{◌≡◌, ℕ, ◌+◌, List, [], ◌∷◌, ◌++◌, length, codes}
use Rattle.tap_rows.specs.Fields.{AreFields, FieldRepresents}
use Rattle.tap_rows.specs.Rows.{IsTapRow, IsNoTapRow, rows_text}
use Rattle.tap_rows.specs.declared.{column.Column.Column, fault.RowsFault.RowsFault}
use Rattle.tap_rows.specs.declared.fault.RowsFault.TheVariants.{Head, NoMemory, Row}
use Rattle.tap_views.specs.{Files.IsFileOf, declared.encoder.TapFields.TapFields}

-- the line is a header line: its three fields represent the names of the columns
pub record IsHead (line : List ℕ) : Type 0 where
  pub token_text : List ℕ
  pub validator_text : List ℕ
  pub moment_text : List ℕ
  pub fields : AreFields line token_text validator_text moment_text
  pub token : FieldRepresents token_text (codes "token")
  pub validator : FieldRepresents validator_text (codes "validator")
  pub moment : FieldRepresents moment_text (codes "moment")

-- the header line as it is written
abbrev pub head : List ℕ
head = codes "token,validator,moment"

-- the text begins with the rows of these taps, a line each in their order, and the rest follows
abbrev pub BeginsWithRows : List ℕ → List TapFields → List ℕ → Type 0
BeginsWithRows text [] rest = text ≡ rest
BeginsWithRows text (tap ∷ taps) rest =
    IsTapRow (first_line text) tap × BeginsWithRows (drop_through 10 text) taps rest

-- the text is the tap table of these taps: the head, then their rows, and nothing else
pub record IsTapTable (text : List ℕ) (taps : List TapFields) : Type 0 where
  pub head_line : IsHead (first_line text)
  pub rows : BeginsWithRows (drop_through 10 text) taps []

-- The line of this number is the first that is a row of no tap, by this column. The head is line 1.
pub record IsBadRow (text : List ℕ) (number : ℕ) (column : Column) : Type 0 where
  pub head_line : IsHead (first_line text)
  pub before : List TapFields
  pub rest : List ℕ
  pub rows : BeginsWithRows (drop_through 10 text) before rest
  pub some : ¬ (rest ≡ [])
  pub number_is : number ≡ length before + 2
  pub wrong : IsNoTapRow (first_line rest) column

-- what a fault says of the tap table; that an allocation failed says nothing of it
abbrev pub IsRowsFault : List ℕ → RowsFault → Type 0
IsRowsFault text Head = ¬ (IsHead (first_line text))
IsRowsFault text (Row number column) = IsBadRow text number column
IsRowsFault text NoMemory = Unit {0}

-- the file is an upload with no fault, of exactly the taps of the tap table, in their order
pub record IsEncoded (text file : List ℕ) : Type 0 where
  pub taps : List TapFields
  pub tap_table : IsTapTable text taps
  pub upload : IsFileOf file taps

-- the tap table that is written for these taps
abbrev pub tap_table_text : List TapFields → List ℕ
tap_table_text taps = head ++ 10 ∷ rows_text taps
