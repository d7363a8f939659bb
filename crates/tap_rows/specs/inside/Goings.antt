-- How far the rows of an agency's CSV are read and encoded: what private functions alone cite.
use Rattle.csv.specs.declared.reader.Reader.{Reader}
use Rattle.std.specs.{Borrow.Bor, List.AllZip}
use Rattle.std.specs.Prelude.{◌≡◌, ℕ, List, ◌∷◌, length}
use Rattle.tap_rows.specs.Agencies.{IsSummary, refusals, refusals_text, taps_in}
use Rattle.tap_rows.specs.AgencyRows.{IsParseOf}
use Rattle.tap_rows.specs.declared.agency.{choice.Choice.Choice, positions.Positions.Positions}
use Rattle.tap_rows.specs.declared.agency.{reading.Reading.Reading, summary.Summary.Summary}
use Rattle.tap_rows.specs.{declared.growing.Growing.Growing, inside.Growing.IsGrown}
use Rattle.tap_rows.specs.inside.{Positions.ArePositions, RecordReaders.HasConsumed}

-- `count` rows are read, their taps are in the upload, the refused ones are these bytes, and the
-- summary is theirs
pub record IsGoing (choice : Choice) (positions : Positions) (text : List ℕ) (count : ℕ)
    (reader : Reader (Bor (List ℕ))) (growing : Growing) (refused : List ℕ) (summary : Summary)
    : Type 0 where
  pub head : List (List ℕ)
  pub rows : List (List (List ℕ))
  pub readings : List Reading
  pub columns : ArePositions choice head positions
  pub consumed : HasConsumed choice.columns.now.separator text (head ∷ rows) reader
  pub each : AllZip (IsParseOf choice head) rows readings
  pub number : length rows ≡ count
  pub grown : IsGrown growing (taps_in readings)
  pub refused_are : refused
      ≡ refusals_text choice.columns.now.separator head (refusals rows readings)
  pub summary_is : IsSummary rows readings summary
