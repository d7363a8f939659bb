-- What an encoding of CSVs has loaded and made so far: what private functions alone cite.
use Rattle.jiff_tz.specs.{PosixReader.read_whole, declared.tzif.Tzif.Tzif}
use Rattle.std.specs.Prelude.{◌≡◌, ◌≢◌, ⊤, ℕ, Bool, List, [], None, Option, Result, Some, Vec, map}
use Rattle.std.specs.declared.alloc.Global.{Global}
use Rattle.tap_rows.specs.declared.agency.choice.Choice.{Choice}
use Rattle.tool_tasks.specs.EncodeRows.{AddsCsv, Chain, Encoded, HasTried, IsGivenOf, Texts}
use Rattle.tool_tasks.specs.EncodeRows.{nothing_encoded, rows_rule, word_in}
use Rattle.tool_tasks.specs.{EncodeTables.IsTableOf, declared.encode_csvs.Encoded.Encoded as Held}
use Rattle.tool_tasks.specs.declared.encode_loads.Texts.{Texts as HeldTexts}
use Rattle.tool_tasks.specs.declared.prepared.{NewFile.NewFile, Prepared.Prepared}
use Rattle.tool_tasks.specs.{declared.stops.Halt.Halt, inside.Does.Does, inside.Prepared.whole_of}
use Rattle.tool_words.specs.declared.task.RowsWords.{RowsWords}
use Rattle.world.specs.Run.{Run}

-- ---- values, as contracts see them
abbrev pub csvs_of : List (Vec ℕ Global) → List (List ℕ)
csvs_of csvs = map (λ csv. csv.items) csvs

abbrev pub texts_in : HeldTexts → Texts
texts_in texts = record {
  devices = texts.devices.items;
  key = texts.key.items;
  zone = texts.zone.items;
  csvs = csvs_of texts.csvs.items;
}

abbrev pub encoded_of : Held → Encoded
encoded_of all = record {
  upload = all.upload.items;
  rows = all.rows.items;
  has_taps = all.has_taps;
  has_refused = all.has_refused;
}

-- the table of a zone whose word is no rule
abbrev pub IsTable : Option (List ℕ) → List ℕ → Option Tzif → Type 0
IsTable None text table = ⊤
IsTable (Some word) text None = read_whole word ≢ None
IsTable (Some word) text (Some table) = IsTableOf word text table

-- ---- what is prepared
-- the file, if there is one, has the name of this word
abbrev pub IsOf : Option (List ℕ) → Option NewFile → Type 0
IsOf word None = ⊤
IsOf word (Some file) = word ≡ Some file.name.now

-- each file that was prepared has the name of its word
pub record AreOf (words : RowsWords) (prepared : Prepared) : Type 0 where
  pub devices : IsOf (word_in words.devices) prepared.first
  pub upload : IsOf (word_in words.out) prepared.upload
  pub refused : IsOf (word_in words.refused) prepared.held

-- what was prepared is of all CSVs, if they are read so
abbrev pub IsPrepared : RowsWords → Choice → List (List ℕ) → Prepared → Type 0
IsPrepared words choice csvs prepared = AreOf words prepared × (all : Encoded)
    × Chain (AddsCsv words choice) csvs nothing_encoded all
    × IsGivenOf words choice all (whole_of [] prepared) prepared.status

-- what was done after the device table was looked for
abbrev pub DoesRows : RowsWords → List (List ℕ) → Run → Run → Result ℕ Halt → Type 0
DoesRows words csvs old new result = (is_there : Bool) × (started : Run)
    × HasTried words is_there old started × Does (rows_rule words csvs is_there) started new result
