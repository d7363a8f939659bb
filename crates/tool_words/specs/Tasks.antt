-- Tasks, as what is asked for.
use Rattle.clap.specs.Words.{Text}
use Rattle.std.specs.{Borrow.Bor, Prelude.List, Prelude.Option, Prelude.map, Prelude.option_map}
use Rattle.tap_rows.specs.declared.agency.choice.Condition.{Condition}
use Rattle.tool_words.specs.Request.{Request, CorrectionsRequest, ValidPrefixRequest, RowsRequest}
use Rattle.tool_words.specs.Request.{SortRequest, corrections, decode, encode, encode_rows}
use Rattle.tool_words.specs.Request.{valid_prefix, merge, misused, shows, sort}
use Rattle.tool_words.specs.declared.task.{CorrectionsWords.CorrectionsWords, RowsWords.RowsWords}
use Rattle.tool_words.specs.declared.task.{SortingWords.SortingWords, Task.Task}
use Rattle.tool_words.specs.declared.task.ValidPrefixWords.{ValidPrefixWords}
use Rattle.tool_words.specs.declared.task.Task.TheVariants as task

-- the texts after references
abbrev pub texts_of : List (Bor Text) → List Text
texts_of = map (λ word. word.now)

-- the text after a reference, if there is one
abbrev pub text_in : Option (Bor Text) → Option Text
text_in word = option_map (λ w. w.now) word

-- the column and the value of a condition
abbrev pub condition_of : Condition → Text × Text
condition_of condition = (condition.column.now, condition.value.now)

abbrev pub rows_words_of : RowsWords → RowsRequest
rows_words_of words = record {
  separator = words.columns.separator;
  token = words.columns.token.now;
  validator = words.columns.validator.now;
  moment = words.columns.moment.now;
  has_hashes = words.columns.has_hashes;
  unit = words.columns.unit;
  format = text_in words.columns.format;
  only = map condition_of words.columns.only.items;
  without = map condition_of words.columns.without.items;
  count = text_in words.columns.count;
  devices = text_in words.devices;
  makes_devices = words.makes_devices;
  key = text_in words.key;
  zone = text_in words.zone;
  fold = words.fold;
  refused = text_in words.refused;
  out = text_in words.out;
}

abbrev pub valid_prefix_of : ValidPrefixWords → ValidPrefixRequest
valid_prefix_of words = record {
  upload = words.upload.now;
  out = words.out.now;
  has_tokens = words.has_tokens;
}

abbrev pub sorting_of : SortingWords → SortRequest
sorting_of words = record {
  is_merge = words.is_merge;
  out = words.out.now;
  ends = text_in words.ends;
  uploads = texts_of words.uploads.items;
}

abbrev pub corrections_of : CorrectionsWords → CorrectionsRequest
corrections_of words = record {
  old = words.old.now;
  new = words.new.now;
  is_by_token = words.is_by_token;
}

-- what a task is
abbrev pub request_of : Task → Request
request_of (task.Encode word) = encode word.now
request_of (task.EncodeRows files words) = encode_rows (texts_of files.items) (rows_words_of words)
request_of (task.Decode words) = decode (texts_of words.items)
request_of (task.ValidPrefix words) = valid_prefix (valid_prefix_of words)
request_of (task.Sort words) = sort (sorting_of words)
request_of (task.Merge parts) = merge (texts_of parts.items)
request_of (task.Corrections words) = corrections (corrections_of words)
request_of (task.UsageError line) = misused
request_of _ = shows
