-- How far the devices of a text are numbered: what private functions alone cite.
use Rattle.csv.specs.declared.reader.Reader.{Reader}
use Rattle.std.specs.{Borrow.Bor, List.fold, Prelude.◌≡◌, Prelude.ℕ, Prelude.List, Prelude.◌∷◌}
use Rattle.tap_rows.specs.{Devices.Device, Numbering.with_row}
use Rattle.tap_rows.specs.declared.agency.{choice.Choice.Choice, positions.Positions.Positions}
use Rattle.tap_rows.specs.inside.Positions.{ArePositions, layout_of}
use Rattle.tap_rows.specs.inside.RecordReaders.{HasConsumed}

-- the devices of the rows that were read were added
pub record IsNumbering (choice : Choice) (positions : Positions) (text : List ℕ)
    (reader : Reader (Bor (List ℕ))) (old now : List Device) : Type 0 where
  pub head : List (List ℕ)
  pub rows : List (List (List ℕ))
  pub columns : ArePositions choice head positions
  pub consumed : HasConsumed choice.columns.now.separator text (head ∷ rows) reader
  pub now_are : now ≡ fold (with_row (layout_of positions)) old rows
