-- How an agency's CSV is read: what the values of `--columns`, `--from`, `--separator`, `--unit`,
-- `--fold`, `--only`, `--drop` and `--count` say.
use Rattle.clap.specs.Words.{Row, Text, first_of}
use Rattle.program_manners.specs.Words.{is_given}
use Rattle.std.specs.List.{after_first, before_first, find, list_all, list_any, slice_split}
use Rattle.std.specs.{Option.option_and_then, Option.option_or, Prelude.◌==◌}
use Rattle.std.specs.Prelude.{◌&&◌, ◌||◌, if◌then◌else◌, ℕ, Bool, List, [], ◌∷◌, ◌++◌, Option, None}
use Rattle.std.specs.Prelude.{Some, codes, length, map, option_map, unwrap_or}
use Rattle.std.specs.Str.{bytes_eq}
use Rattle.tap_rows.specs.declared.agency.choice.{Fold.Fold, Separator.Separator, Unit.Unit}
use Rattle.tap_rows.specs.declared.agency.choice.Fold.TheVariants as folds
use Rattle.tap_rows.specs.declared.agency.choice.Unit.TheVariants as units
use Rattle.tool_words.specs.ToolLine.{named}

abbrev pub is_comma : ℕ → Bool
is_comma byte = byte == 44

abbrev pub is_equals : ℕ → Bool
is_equals byte = byte == 61

-- the word is COLUMN=VALUE
abbrev pub has_parts : Text → Bool
has_parts word = list_any is_equals word

-- what is before and what is after the first `=` of a word
abbrev pub parts_of : Text → Text × Text
parts_of word = (before_first is_equals word, after_first is_equals word)

-- the columns and values of words, if each has both
abbrev pub conditions_in : List Text → Option (List (Text × Text))
conditions_in words = if list_all has_parts words then Some (map parts_of words) else None

-- this kind of export is named
abbrev pub is_from : Text → List Row → Bool
is_from name rows = bytes_eq (unwrap_or (first_of (codes "from") rows) []) name

-- The conditions of the words under this name. `--from littlepay`, the device transactions of
-- Littlepay, is short for one more: taps on that were allowed.
abbrev pub conditions_of : Text → Text → List Row → Option (List (Text × Text))
conditions_of name more rows = conditions_in
    (named name rows ++ (if is_from (codes "littlepay") rows then more ∷ [] else []))

-- the first value that is given with this column
abbrev pub value_of : Text → List (Text × Text) → Option Text
value_of column pairs = option_map (λ pair. pair.1) (find (λ pair. bytes_eq pair.0 column) pairs)

abbrev pub all_three : Option Text → Option Text → Option Text → Option (Text × Text × Text)
all_three (Some token) (Some validator) (Some moment) = Some (token, validator, moment)
all_three _ _ _ = None

-- the columns of tokens, validators and moments that three pairs give, if they name each
abbrev pub columns_among : List (Text × Text) → Option (Text × Text × Text)
columns_among pairs = if length pairs == 3
    then all_three (value_of (codes "token") pairs) (value_of (codes "validator") pairs)
    (value_of (codes "moment") pairs)
    else None

-- the value of `--columns`, or what an export's name is short for: also of TIDES' fare transactions
abbrev pub columns_text : List Row → Text
columns_text rows = if is_from (codes "littlepay") rows
    then codes "token=customer_id,validator=device_id,moment=transaction_date_time_utc"
    else (if is_from (codes "tides") rows
    then codes "token=fare_media_id,validator=device_id,moment=event_timestamp"
    else unwrap_or (first_of (codes "columns") rows) [])

-- the columns that the words name, if they name each once
abbrev pub columns_in : List Row → Option (Text × Text × Text)
columns_in rows =
    option_and_then columns_among (conditions_in (slice_split is_comma (columns_text rows)))

-- whether a token is the hash of its field, as that of TIDES
abbrev pub has_hashes : List Row → Bool
has_hashes rows = is_from (codes "tides") rows || is_given (codes "token-hash") rows

-- the device table that is read, or made
abbrev pub devices_in : List Row → Option Text
devices_in rows = option_or (first_of (codes "validators") rows)
    (first_of (codes "validators-make") rows)

-- the column of riders, which TIDES has
abbrev pub count_in : List Row → Option Text
count_in rows = option_or (first_of (codes "count") rows)
    (if is_from (codes "tides") rows then Some (codes "num_riders") else None)

-- the byte, if it may be between two fields: not a quote, a line feed or a carriage return
abbrev pub one_byte : Text → Option Separator
one_byte (byte ∷ []) =
    if byte == 34 || (byte == 10 || byte == 13) then None else Some (record { byte = byte })
one_byte _ = None

-- what is between two fields, and none if the word says it wrong
abbrev pub separator_in : Text → Option Separator
separator_in word =
    if bytes_eq word (codes "tab") then Some (record { byte = 9 }) else one_byte word

-- what a plain number counts, and none if the words say it wrong
abbrev pub unit_in : Option Text → Option Unit
unit_in None = Some units.Unsaid
unit_in (Some word) = if bytes_eq word (codes "s") then Some units.Seconds
    else (if bytes_eq word (codes "ms") then Some units.Milliseconds
    else (if bytes_eq word (codes "us") then Some units.Microseconds else None))

-- which of two moments a time is, which needs a zone; none if the words say it wrong
abbrev pub fold_in : Bool → Option Text → Option Fold
fold_in has_zone None = Some folds.Unsaid
fold_in has_zone (Some word) = if has_zone && bytes_eq word (codes "first") then Some folds.First
    else (if has_zone && bytes_eq word (codes "second") then Some folds.Second else None)
