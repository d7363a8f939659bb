-- A CSV text, as RFC 4180 has it: its records, by the definition of the kit's reader. A byte order
-- mark before the first is none of them.
use Rattle.csv.specs.Machine.{Read, next_record}
use Rattle.csv.specs.Reading.{AreRecords, Reached, default_config, strip_bom}
use Rattle.csv.specs.Writing.{default_writer, row_text}
use Rattle.csv.specs.declared.parser.{Config.Config, State.State, State.TheVariants.StartRecord}
use Rattle.std.specs.Prelude.{ℕ, List, [], Option, Some, None}
use Rattle.tap_rows.specs.declared.agency.choice.Separator.{Separator}

-- the byte of a separator
abbrev pub separator_byte : Separator → ℕ
separator_byte separator = separator.byte

-- the separator of a table whose own it is
abbrev pub comma : Separator
comma = record { byte = 44 }

-- how a text with this separator is read
abbrev pub config_of : Separator → Config
config_of separator = record default_config { delimiter = separator_byte separator }

-- the text has these records, and nothing else
abbrev pub HasRecords : Separator → List ℕ → List (List (List ℕ)) → Type 0
HasRecords separator text rows =
    AreRecords (config_of separator) StartRecord (strip_bom text) rows

-- the text begins with these records
pub record BeginsWith (separator : Separator) (text : List ℕ) (rows : List (List (List ℕ)))
    : Type 0 where
  pub state : State
  pub left : List ℕ
  pub reached : Reached (config_of separator) StartRecord (strip_bom text) rows state left

-- the fields of a record that was read, and none if there was no record
abbrev pub fields_read : Option Read → List (List ℕ)
fields_read None = []
fields_read (Some read) = read.0

-- the first record of a text; one without fields if it has none
abbrev pub first_record : Separator → List ℕ → List (List ℕ)
first_record separator text =
    fields_read (next_record (config_of separator) StartRecord [] [] (strip_bom text))

-- a record as it is written with this separator, with its line feed
abbrev pub record_text : Separator → List (List ℕ) → List ℕ
record_text separator fields =
    row_text (record default_writer { delimiter = separator_byte separator }) fields
