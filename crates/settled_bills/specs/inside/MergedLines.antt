-- Lines of taps of merged files: what private functions alone cite.
use Rattle.fare_texts.specs.{LedgerLines.head_text, Lines.AreLinesAlong}
use Rattle.settlement.specs.{Nondecreasing.TapsNondecreasingFrom, Posted.posted}
use Rattle.settled_bills.specs.inside.Taken.{AreTapsTaken}
use Rattle.sorted_taps.specs.declared.reader.TapReader.{TapReader}
use Rattle.std.specs.Prelude.{ℕ, List, Option, [], ◌++◌}
use Rattle.tap_views.specs.declared.{encoder.TapFields.TapFields, token.Token.Token}
use Rattle.tariffs.specs.Fares.{Fares}

-- Taps were taken whose tokens do not fall from this one. What is said of a text holds of the header
-- line and their lines.
pub record HasLines (fares : Fares) (known : List (Option (List ℕ))) (old : List TapReader)
    (from : Token) (new : List TapReader) (said : List ℕ → Type 0) : Type 0 where
  pub taps : List TapFields
  pub taken : AreTapsTaken known old taps new
  pub nondecreasing : TapsNondecreasingFrom from taps
  pub lines : List ℕ
  pub are : AreLinesAlong fares [] (posted fares taps) lines
  pub holds : said (head_text ++ lines)
