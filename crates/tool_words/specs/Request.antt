-- What the words of the tools ask for.
use Rattle.clap.specs.Words.{Row, Text, first_of}
use Rattle.program_manners.specs.Words.{is_given}
use Rattle.std.specs.{List.count_by, Option.option_map_or, Prelude.ℕ, Prelude.Bool, Prelude.◌&&◌}
use Rattle.std.specs.Prelude.{◌||◌, if◌then◌else◌, nat_lt, List, [], ◌∷◌, ◌++◌, Option, Some}
use Rattle.std.specs.{Prelude.codes, Prelude.length, Prelude.unwrap_or, Str.bytes_eq}
use Rattle.tap_rows.specs.declared.agency.choice.{Fold.Fold, Separator.Separator, Unit.Unit}
use Rattle.tool_words.specs.Columns.{columns_in, conditions_of, count_in, devices_in, fold_in}
use Rattle.tool_words.specs.Columns.{has_hashes, separator_in, unit_in}
use Rattle.tool_words.specs.ToolLine.{entered, has_any, has_value, named}

-- what `encode` is asked for with columns, beside the files
pub record RowsRequest : Type 0 where
  pub separator : Separator
  pub token : Text
  pub validator : Text
  pub moment : Text
  -- whether a token is the hash of its field
  pub has_hashes : Bool
  -- what a plain number of the column of moments counts
  pub unit : Unit
  -- the format by which moments are read, if there is one
  pub format : Option Text
  -- the column and the value of each condition that rows are kept by, and left out by
  pub only : List (Text × Text)
  pub without : List (Text × Text)
  -- the column of how many riders a row is of, if there is one
  pub count : Option Text
  -- the file of devices and their validators, if the rows have no validators' numbers
  pub devices : Option Text
  -- whether this file is made, with the devices of the rows that it lacks
  pub makes_devices : Bool
  -- the file of the key under which any text is a token, if there is one
  pub key : Option Text
  -- the zone of local times, if they are read, and which of two moments such a time is
  pub zone : Option Text
  pub fold : Fold
  -- the file of the rows that are no taps, if one is made
  pub refused : Option Text
  -- the file of the upload, if one is made
  pub out : Option Text

-- what `uploads --good-part` is asked for
pub record ValidPrefixRequest : Type 0 where
  pub upload : Text
  -- the file that is made
  pub out : Text
  pub has_tokens : Bool

-- what `sort` is asked for
pub record SortRequest : Type 0 where
  pub is_merge : Bool
  -- the file that is made
  pub out : Text
  -- the file of the uploads' ends, if one is made
  pub ends : Option Text
  pub uploads : List Text

-- what `corrections` is asked for: the ledger of the bill that was issued, and the one in its place
pub record CorrectionsRequest : Type 0 where
  pub old : Text
  pub new : Text
  pub is_by_token : Bool

-- What is asked for.
pub data Request : Type 0 where
  encode : Text → Request
  -- the files of an agency's CSVs, and how they are read
  encode_rows : List Text → RowsRequest → Request
  decode : List Text → Request
  valid_prefix : ValidPrefixRequest → Request
  sort : SortRequest → Request
  merge : List Text → Request
  corrections : CorrectionsRequest → Request
  -- What only informs: `table`, `bounds`, or `uploads` without a good part. Its words may be wrong.
  shows : Request
  -- nothing, since the words are wrong
  misused : Request

-- whether the word represents standard input
abbrev pub is_input : Text → Bool
is_input word = bytes_eq word (codes "-")

-- how many of the words represent standard input
abbrev pub inputs_in : List Text → ℕ
inputs_in words = count_by is_input words

-- one of the words that are given under this name represents standard input
abbrev pub names_input : Text → List Row → Bool
names_input name rows = nat_lt 0 (inputs_in (named name rows))

-- the list of files is standard input, and so is a file
abbrev pub has_input_twice : List Row → Bool
has_input_twice rows = is_input (unwrap_or (first_of (codes "files-from") rows) [])
    && (names_input (codes "FILE") rows || (names_input (codes "UPLOAD") rows
    || (names_input (codes "PART") rows || names_input (codes "table") rows)))

-- standard input if there are no words
abbrev pub or_input : List Text → List Text
or_input [] = codes "-" ∷ []
or_input (word ∷ words) = word ∷ words

-- the files of `decode`, or of the agency's CSVs
abbrev pub encoded_files : List Row → List Text
encoded_files rows = or_input (named (codes "FILE") rows)

-- all files that are read with the CSVs: the devices and the key, if they have a name
abbrev pub read_files : List Row → List Text
read_files rows = (encoded_files rows ++ unwrap_or (first_of (codes "validators") rows) [] ∷ [])
    ++ unwrap_or (first_of (codes "token-key") rows) [] ∷ []

-- an agency's CSV with these columns, this separator, this unit and this fold, under these conditions
-- that keep rows and leave them out
abbrev pub requested_rows : Text × Text × Text → Separator → Unit → Fold → List (Text × Text)
    → List (Text × Text) → List Row → RowsRequest
requested_rows columns separator unit fold only without rows = record {
  separator = separator;
  token = columns.0;
  validator = columns.1;
  moment = columns.2;
  has_hashes = has_hashes rows;
  unit = unit;
  format = first_of (codes "moment-format") rows;
  only = only;
  without = without;
  count = count_in rows;
  devices = devices_in rows;
  makes_devices = has_value (codes "validators-make") rows;
  key = first_of (codes "token-key") rows;
  zone = first_of (codes "zone") rows;
  fold = fold;
  refused = first_of (codes "refused") rows;
  out = first_of (codes "out") rows;
}

-- the same, if none of these is wrong
abbrev pub rows_by : Option (Text × Text × Text) → Option Separator → Option Unit → Option Fold
    → Option (List (Text × Text)) → Option (List (Text × Text)) → List Row → Request
rows_by (Some columns) (Some separator) (Some unit) (Some fold) (Some only) (Some without) rows =
    if nat_lt 1 (inputs_in (read_files rows)) then misused else encode_rows (encoded_files rows)
    (requested_rows columns separator unit fold only without rows)
rows_by _ _ _ _ _ _ rows = misused

-- the rows of an agency's CSV
abbrev pub rows_request : List Row → Request
rows_request rows = rows_by (columns_in rows)
    (separator_in (unwrap_or (first_of (codes "separator") rows) (codes ",")))
    (unit_in (first_of (codes "unit") rows))
    (fold_in (has_value (codes "zone") rows) (first_of (codes "fold") rows))
    (conditions_of (codes "only") (codes "transaction_outcome=allow") rows)
    (conditions_of (codes "drop") (codes "type=off") rows) rows

-- a tap table, unless the words are of the rows of an agency's CSV
abbrev pub table_request : List Row → Request
table_request rows =
    if has_any (codes "only" ∷ codes "separator" ∷ codes "refused" ∷ []) rows then misused
    else (if has_value (codes "validators") rows then misused
    else (if has_value (codes "unit") rows then misused
    else (if is_given (codes "token-hash") rows || has_any (codes "drop" ∷ codes "count"
    ∷ codes "token-key" ∷ codes "zone" ∷ codes "fold" ∷ []) rows then misused
    else (if nat_lt 1 (length (named (codes "FILE") rows))
    || has_any (codes "moment-format" ∷ codes "validators-make" ∷ codes "out" ∷ []) rows
    then misused else encode (unwrap_or (first_of (codes "FILE") rows) (codes "-"))))))

-- the rows of an agency's CSV, or a tap table
abbrev pub encode_request : List Row → Request
encode_request rows =
    if has_value (codes "columns") rows && has_value (codes "from") rows then misused
    else (if has_value (codes "columns") rows || has_value (codes "from") rows
    then rows_request rows else table_request rows)

-- the good part of one upload
abbrev pub valid_prefix_request : Text → Bool → List Text → Request
valid_prefix_request out has_tokens (upload ∷ []) =
    valid_prefix (record { upload = upload; out = out; has_tokens = has_tokens })
valid_prefix_request out has_tokens words = misused

-- a good part, or what uploads have
abbrev pub uploads_request : List Row → Request
uploads_request rows =
    if has_value (codes "good-part") rows
    then valid_prefix_request (unwrap_or (first_of (codes "good-part") rows) [])
    (is_given (codes "tokens") rows) (named (codes "FILE") rows)
    else shows

-- Uploads that are merged are read at any offset, and standard input cannot be.
abbrev pub sort_request : List Row → Request
sort_request rows =
    if nat_lt 0 (inputs_in (named (codes "UPLOAD") rows)) && is_given (codes "merge") rows
    then misused
    else (if nat_lt 1 (inputs_in (named (codes "UPLOAD") rows)) then misused
    else sort (record {
      is_merge = is_given (codes "merge") rows;
      out = unwrap_or (first_of (codes "out") rows) (codes "-");
      ends = first_of (codes "ends") rows;
      uploads = named (codes "UPLOAD") rows;
    }))

abbrev pub merge_request : List Text → Request
merge_request parts =
    if nat_lt 1 (inputs_in parts) then misused else merge parts

-- the ledgers of `corrections`
abbrev pub ledgers_named : List Row → CorrectionsRequest
ledgers_named rows = record {
  old = unwrap_or (first_of (codes "OLD") rows) (codes "-");
  new = unwrap_or (first_of (codes "NEW") rows) (codes "-");
  is_by_token = is_given (codes "tokens") rows;
}

abbrev pub corrections_request : List Row → Request
corrections_request rows =
    if is_input (ledgers_named rows).old && is_input (ledgers_named rows).new
    then misused else corrections (ledgers_named rows)

-- what a subcommand is asked for by what it is given; the last ones are `bounds` and `table`
abbrev pub request_of_name : Text → List Row → Request
request_of_name name rows = if has_input_twice rows then misused
    else (if bytes_eq name (codes "encode") then encode_request rows
    else (if bytes_eq name (codes "decode") then decode (encoded_files rows)
    else (if bytes_eq name (codes "uploads") then uploads_request rows
    else (if bytes_eq name (codes "sort") then sort_request rows
    else (if bytes_eq name (codes "merge") then merge_request (named (codes "PART") rows)
    else (if bytes_eq name (codes "corrections") then corrections_request rows
    else shows))))))

-- what these words ask for, which are a command line
abbrev pub request_by : List Text → Request
request_by words = option_map_or (λ e. request_of_name e.0 e.1) (entered words) misused
