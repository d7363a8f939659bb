-- How far a tap table is read: what private functions alone cite.
use Rattle.std.specs.Io.BufRead.{drop_through}
use Rattle.std.specs.Prelude.{◌≡◌, ℕ, ◌+◌, List, length}
use Rattle.tap_rows.specs.{TapTables.BeginsWithRows, declared.growing.Growing.Growing}
use Rattle.tap_rows.specs.inside.Growing.{IsGrown}
use Rattle.tap_views.specs.declared.encoder.TapFields.{TapFields}

-- the rows before the line of this number are read, and their taps are in the upload
pub record HasEncoded (text left : List ℕ) (number : ℕ) (growing : Growing) : Type 0 where
  pub taps : List TapFields
  pub rows : BeginsWithRows (drop_through 10 text) taps left
  pub number_is : number ≡ length taps + 2
  pub grown : IsGrown growing taps
