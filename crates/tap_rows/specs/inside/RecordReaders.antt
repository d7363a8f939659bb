-- How far a reader of records has come: what private functions alone cite.
use Rattle.csv.specs.Reading.{Reached, Ready, source_of, strip_bom}
use Rattle.csv.specs.declared.{parser.State.TheVariants.StartRecord, reader.Reader.Reader}
use Rattle.std.specs.{Borrow.Bor, Prelude.◌≡◌, Prelude.ℕ, Prelude.List, Prelude.Some}
use Rattle.tap_rows.specs.{AgencyTexts.config_of, declared.agency.choice.Separator.Separator}
use Rattle.csv.specs.declared.reader.Trim.TheVariants as trim

-- the reader of this text has come over these records
pub record HasConsumed (separator : Separator) (text : List ℕ) (rows : List (List (List ℕ)))
    (reader : Reader (Bor (List ℕ))) : Type 0 where
  pub left : List ℕ
  pub config : reader.config ≡ config_of separator
  pub trims : reader.trim ≡ trim.None
  pub ready : Ready reader
  pub source : source_of (λ s. Some s.now) reader ≡ Some left
  pub reached : Reached (config_of separator) StartRecord (strip_bom text) rows reader.state left
