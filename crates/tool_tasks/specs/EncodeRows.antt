-- What `encode` of an agency's own CSVs does: of the words of their files, and of the words that say
-- how they are read.
use Rattle.frame.specs.{Given.Given, Given.LoadsFiles, Given.file_of, Given.load_of, Names.file_named}
use Rattle.frame.specs.Outcome.{Ends, Rule, rule_of}
use Rattle.std.specs.{Borrow.Bor, Prelude.◌≡◌, Prelude.◌≢◌, Prelude.◌⊎◌}
use Rattle.std.specs.Prelude.{◌==◌, ◌||◌, ℕ, Bool, Contains, Err, List, [], ◌∷◌, ◌++◌, Option, None}
use Rattle.std.specs.Prelude.{Some, if◌then◌else◌, false, filter_map, map, not, option_map, true}
use Rattle.tap_rows.specs.Agencies.{IsFirstRefused, IsRowsEncoded, IsWanting}
use Rattle.tap_rows.specs.AgencyTexts.{first_record}
use Rattle.tap_rows.specs.Devices.{AreDevices, Device, IsDevicesFault, devices_of}
use Rattle.tap_rows.specs.{Keys.key_of, Numbering.IsNumbered, Numbering.device_table_text}
use Rattle.tap_rows.specs.declared.agency.choice.{Choice.Choice, Columns.Columns}
use Rattle.tap_rows.specs.declared.agency.{choice.Separator.Separator, fault.Wanted.Wanted}
use Rattle.tap_rows.specs.declared.agency.{key.WrongKey.WrongKey, reading.Reason.Reason}
use Rattle.tap_rows.specs.declared.agency.summary.Summary.{Summary}
use Rattle.tap_rows.specs.declared.devices.fault.DevicesFault.{DevicesFault}
use Rattle.tool_tasks.specs.EncodeTables.{HasNoZone, IsClock, IsKey, zone_file, zone_loaded}
use Rattle.tool_tasks.specs.Files.{named_files}
use Rattle.tool_words.specs.declared.task.RowsWords.{RowsWords}
use Rattle.world.specs.Run.{Load, Named, Run, with_unread}
use Rattle.tap_rows.specs.declared.devices.fault.DevicesFault.TheVariants as devices

-- the word, if there is one
abbrev pub word_in : Option (Bor (List ℕ)) → Option (List ℕ)
word_in word = option_map (λ w. w.now) word

-- the files that options name: the device table, the file of the refused rows, the key, the file of
-- the zone, and that of the upload
abbrev pub options_of : RowsWords → List (Option (List ℕ))
options_of words = word_in words.devices ∷ word_in words.refused ∷ word_in words.key
    ∷ option_map zone_file (word_in words.zone) ∷ word_in words.out ∷ []

-- all files that the words name
abbrev pub names_of : RowsWords → List (List ℕ) → List (List ℕ)
names_of words csvs = filter_map (λ name. name) (options_of words) ++ csvs

-- ---- what is read
-- the texts of the device table, the key and the zone, each empty if it is not loaded, and the CSVs
pub record Texts : Type 0 where
  pub devices : List ℕ
  pub key : List ℕ
  pub zone : List ℕ
  pub csvs : List (List ℕ)

-- the load of a text, if it has a word
abbrev pub loads_in : Option (List ℕ) → List ℕ → List Load
loads_in None text = []
loads_in (Some word) text = load_of word text ∷ []

-- the word of the device table, if it is there
abbrev pub devices_word : RowsWords → Bool → Option (List ℕ)
devices_word words true = word_in words.devices
devices_word words false = None

-- what is loaded before the CSVs, in order
abbrev pub first_loads : RowsWords → Bool → Texts → List Load
first_loads words is_there texts = (loads_in (devices_word words is_there) texts.devices
    ++ loads_in (word_in words.key) texts.key)
    ++ loads_in (zone_loaded (word_in words.zone)) texts.zone

-- All that the words name was loaded, in order, and has these texts.
pub record AreRead (words : RowsWords) (csvs : List (List ℕ)) (is_there : Bool) (texts : Texts)
    (loads : List Load) : Type 0 where
  pub csv_loads : List Load
  pub read : LoadsFiles (map file_named csvs) csv_loads texts.csvs
  pub all : loads ≡ first_loads words is_there texts ++ csv_loads

-- ---- how the rows are read
-- the devices of a table that is there, and none of one that is not
abbrev pub AreOldDevices : Bool → Separator → List ℕ → List Device → Type 0
AreOldDevices true separator text devices = AreDevices separator text devices
AreOldDevices false separator text devices = devices ≡ []

-- each of these leads on, one after the other
abbrev pub Chain : {A S : Type 0} → (A → S → S → Type 0) → List A → S → S → Type 0
Chain {A} {S} Step [] old new = new ≡ old
Chain {A} {S} Step (x ∷ xs) old new = (mid : S) × Step x old mid × Chain Step xs mid new

-- the devices that are used: the old ones, or with those of the rows, if the table is made
abbrev pub AreUsedDevices : Bool → Columns → List (List ℕ) → List Device → List Device → Type 0
AreUsedDevices false columns csvs old new = new ≡ old
AreUsedDevices true columns csvs old new =
    (choice : Choice) × (choice.columns.now ≡ columns) × Chain (IsNumbered choice) csvs old new

abbrev pub AreDevicesOf : Option (List ℕ) → (makes is_there : Bool) → Columns → Texts
    → Option (List Device) → Type 0
AreDevicesOf None makes is_there columns texts None = Unit {0}
AreDevicesOf (Some word) makes is_there columns texts (Some devices) = (old : List Device)
    × AreOldDevices is_there columns.separator texts.devices old
    × AreUsedDevices makes columns texts.csvs old devices
AreDevicesOf word makes is_there columns texts devices = ⊥

-- the devices, if they have a word
abbrev pub HasDevices : RowsWords → Bool → Texts → Option (List Device) → Type 0
HasDevices words is_there texts devices = AreDevicesOf (word_in words.devices) words.makes_devices
    is_there words.columns texts devices

-- The choice is that of the words, and what it has beside columns is in these texts.
pub record IsChoice (words : RowsWords) (is_there : Bool) (texts : Texts) (choice : Choice)
    : Type 0 where
  pub columns : choice.columns.now ≡ words.columns
  pub has_devices : HasDevices words is_there texts
      (option_map (λ table. devices_of table.now) choice.devices)
  pub is_key : IsKey (word_in words.key) texts.key (option_map (λ key. key.now.block) choice.key)
  pub is_clock : IsClock (word_in words.zone) words.fold texts.zone choice.clock

-- ---- all is well
-- what CSVs are encoded as
pub record Encoded : Type 0 where
  pub upload : List ℕ
  pub rows : List ℕ
  pub has_taps : Bool
  pub has_refused : Bool

abbrev pub nothing_encoded : Encoded
nothing_encoded = record {
  upload = [];
  rows = [];
  has_taps = false;
  has_refused = false;
}

-- with the upload, the refused rows and the summary of one more
abbrev pub with_csv : Encoded → (upload rows : List ℕ) → Summary → Encoded
with_csv old upload rows summary = record {
  upload = old.upload ++ upload;
  rows = old.rows ++ rows;
  has_taps = old.has_taps || not (summary.taps == 0);
  has_refused = old.has_refused || not (summary.refused == 0);
}

-- What one more CSV adds is the upload of exactly its rows that are kept, and its refused rows. If
-- these have no file, there are none.
pub record AddsCsv (words : RowsWords) (choice : Choice) (text : List ℕ) (old new : Encoded) : Type 0
  where
    pub upload : List ℕ
    pub rows : List ℕ
    pub summary : Summary
    pub encoded : IsRowsEncoded choice text upload rows summary
    pub whole : word_in words.refused ≡ None → summary.first_refused ≡ None
    pub new_is : new ≡ with_csv old upload rows summary

-- the status: whether a row is a tap, and none is refused
abbrev pub rows_status : Encoded → ℕ
rows_status all = if all.has_taps then (if all.has_refused then 3 else 0) else 1

-- what is written of an upload, and what is made: nothing is written if it has a file, and none is
-- made of an upload without a tap
abbrev pub upload_text : Option (List ℕ) → List ℕ → List ℕ
upload_text None upload = upload
upload_text (Some name) upload = []

abbrev pub upload_files : Option (List ℕ) → List ℕ → List Named
upload_files None upload = []
upload_files (Some name) [] = []
upload_files (Some name) (byte ∷ bytes) = file_of name (byte ∷ bytes) ∷ []

-- the device table, if it is made
abbrev pub device_files : Bool → Option (List ℕ) → Option (List Device) → List Named
device_files true (Some name) (Some devices) =
    file_of name (device_table_text devices) ∷ []
device_files makes name devices = []

-- the files that are made, in order
abbrev pub files_made : RowsWords → Choice → Encoded → List Named
files_made words choice all = (device_files words.makes_devices (word_in words.devices)
    (option_map (λ table. devices_of table.now) choice.devices)
    ++ upload_files (word_in words.out) all.upload)
    ++ named_files (word_in words.refused) all.rows

-- the upload is written or made, and the other files are made
abbrev pub IsGivenOf : RowsWords → Choice → Encoded → Given → ℕ → Type 0
IsGivenOf words choice all given status = (given.text ≡ upload_text (word_in words.out) all.upload)
    × (given.files ≡ files_made words choice all) × (status ≡ rows_status all)

-- ---- a wrong file
-- What is wrong with the text of a CSV, of which no upload is written: its head, or its first row that
-- is refused if the refused rows have no file.
abbrev pub IsWrongCsv : RowsWords → Choice → List ℕ → Type 0
IsWrongCsv words choice text =
    ((column : Wanted) × IsWanting choice (first_record choice.columns.now.separator text) column)
    ⊎ ((word_in words.refused ≡ None) × (number : ℕ) × (why : Reason)
    × IsFirstRefused choice text number why)

-- a device table that is there is none
abbrev pub IsWrongTable : Bool → Separator → List ℕ → Type 0
IsWrongTable is_there separator text = (is_there ≡ true) × (fault : DevicesFault)
    × (fault ≢ devices.NoMemory) × IsDevicesFault separator text fault

-- What is wrong: a CSV that is read as the words say, a device table that is there and is none, a key
-- whose file is none, or a zone that is none.
abbrev pub IsWrongText : RowsWords → Bool → Texts → Type 0
IsWrongText words is_there texts = ((choice : Choice) × IsChoice words is_there texts choice
    × (csv : List ℕ) × Contains texts.csvs csv × IsWrongCsv words choice csv)
    ⊎ (IsWrongTable is_there words.columns.separator texts.devices
    ⊎ (((wrong : WrongKey) × (key_of texts.key ≡ Err wrong))
    ⊎ HasNoZone (word_in words.zone) texts.zone))

-- ---- THE rule
-- what the words name was read to its end, and this is given of the upload of all rows
pub record EncodesRows (words : RowsWords) (csvs : List (List ℕ)) (is_there : Bool) (given : Given)
    (status : ℕ) : Type 0 where
  pub texts : Texts
  pub read : AreRead words csvs is_there texts given.loads
  pub choice : Choice
  pub is_choice : IsChoice words is_there texts choice
  pub all : Encoded
  pub encoded : Chain (AddsCsv words choice) texts.csvs nothing_encoded all
  pub is_given : IsGivenOf words choice all given status

-- it was read to its end, and is wrong
abbrev pub LoadsWrong : RowsWords → List (List ℕ) → Bool → List Load → Type 0
LoadsWrong words csvs is_there loads = (texts : Texts) × AreRead words csvs is_there texts loads
    × IsWrongText words is_there texts

-- A device table that is made may be missing: then its load was refused before anything else.
abbrev pub HasTried : RowsWords → Bool → Run → Run → Type 0
HasTried words true old new = new ≡ old
HasTried words false old new = (words.makes_devices ≡ true) × (name : List ℕ)
    × (word_in words.devices ≡ Some name) × (new ≡ with_unread old (file_named name))

abbrev pub rows_rule : RowsWords → List (List ℕ) → Bool → Rule
rows_rule words csvs is_there = rule_of (EncodesRows words csvs is_there)
    (LoadsWrong words csvs is_there) (names_of words csvs)

-- THE rule of `encode` of an agency's own CSVs
abbrev pub EndsRows : RowsWords → List (List ℕ) → Run → Run → ℕ → Type 0
EndsRows words csvs old new status = (is_there : Bool) × (started : Run)
    × HasTried words is_there old started × Ends (rows_rule words csvs is_there) started new status
