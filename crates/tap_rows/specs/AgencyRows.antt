-- A row of an agency's CSV: its columns by the names of the head, whether it is kept, and the tap
-- that it is.
use Rattle.csv.specs.Records.{field_at}
use Rattle.sha2.specs.Sha256.{sha256}
use Rattle.std.specs.{Borrow.Bor, List.list_all, List.list_any}
use Rattle.std.specs.Prelude.{◌≡◌, ◌==◌, ◌&&◌, ◌+◌, ◌^◌, ℕ, Bool, List, [], ◌∷◌, Option, None, Some}
use Rattle.std.specs.Prelude.{Err, Ok, Result, if◌then◌else◌, length, map, nat_lt, not, option_map}
use Rattle.std.specs.{Prelude.false, Prelude.take, Prelude.true, Prelude.unwrap_or, Str.bytes_eq}
use Rattle.tap_rows.specs.Devices.{devices_of, validator_of}
use Rattle.tap_rows.specs.{Formats.moment_under, Keys.code_by, Numbers.whole_number_in}
use Rattle.tap_rows.specs.declared.agency.choice.{Choice.Choice, Condition.Condition}
use Rattle.tap_rows.specs.declared.agency.key.TokenKey.{TokenKey}
use Rattle.tap_rows.specs.declared.agency.reading.{Reading.Reading, Reason.Reason}
use Rattle.tap_rows.specs.declared.devices.table.DeviceTable.{DeviceTable}
use Rattle.uuid.specs.Text.{parsed}
use Rattle.tap_rows.specs.declared.agency.reading.Reading.TheVariants as read
use Rattle.tap_rows.specs.declared.agency.reading.Reason.TheVariants as why

-- ---- the columns
-- of the fields of the head this one, and no other, is the name
pub record IsColumn (head : List (List ℕ)) (name : List ℕ) (position : ℕ) : Type 0 where
  pub named : field_at head position ≡ Some name
  pub once : (other : ℕ) → field_at head other ≡ Some name → other ≡ position

-- the position of the first of the names that is this one; that after the last if none is
abbrev pub position_in : List (List ℕ) → List ℕ → ℕ
position_in [] name = 0
position_in (first ∷ head) name = if bytes_eq first name then 0 else position_in head name + 1

-- where the columns of a choice are: each test is of a column, and of a value that it may have
pub record HeadLayout : Type 0 where
  pub width : ℕ
  pub token : ℕ
  pub validator : ℕ
  pub moment : ℕ
  pub only : List (ℕ × List ℕ)
  pub without : List (ℕ × List ℕ)
  pub count : Option ℕ

abbrev pub test_in : List (List ℕ) → Condition → ℕ × List ℕ
test_in head condition = (position_in head condition.column.now, condition.value.now)

-- where they are in this head, which has each once
abbrev pub layout_in : Choice → List (List ℕ) → HeadLayout
layout_in choice head = record {
  width = length head;
  token = position_in head choice.columns.now.token.now;
  validator = position_in head choice.columns.now.validator.now;
  moment = position_in head choice.columns.now.moment.now;
  only = map (test_in head) choice.columns.now.only.items;
  without = map (test_in head) choice.columns.now.without.items;
  count = option_map (λ name. position_in head name.now) choice.columns.now.count;
}

-- ---- whether a row is kept
-- the field of a row in this column
abbrev pub field : List (List ℕ) → ℕ → List ℕ
field row position = unwrap_or (field_at row position) []

-- the row has the value of the test in its column
abbrev pub passes : List (List ℕ) → ℕ × List ℕ → Bool
passes row test = bytes_eq (field row test.0) test.1

-- the row passes one of the tests that are of this column
abbrev pub passes_one : List (List ℕ) → List (ℕ × List ℕ) → ℕ → Bool
passes_one row tests position = list_any (λ test. test.0 == position && passes row test) tests

-- the row passes one of the tests of each column that has some, and none that leaves it out
abbrev pub is_kept : HeadLayout → List (List ℕ) → Bool
is_kept layout row =
    list_all (λ test. passes_one row layout.only test.0) layout.only
    && not (list_any (passes row) layout.without)

-- ---- the tap of a row
-- the first 16 bytes of the SHA-256 of a text, if it is not empty
abbrev pub hashed : List ℕ → Option (List ℕ)
hashed text = if length text == 0 then None else Some (take 16 (sha256 text))

-- the first 16 bytes of its HMAC-SHA-256 under the key of this block, if it is not empty
abbrev pub keyed : List ℕ → List ℕ → Option (List ℕ)
keyed block text = if length text == 0 then None else Some (take 16 (code_by block text))

-- the token that a field gives: 32 hexadecimal digits, of either case, or a UUID; if hashes are
-- wanted, a hash of any text; and under a key a code of any text
abbrev pub token_in : Option (Bor TokenKey) → Bool → List ℕ → Option (List ℕ)
token_in None false text = parsed text
token_in None true text = hashed text
token_in (Some key) has_hashes text = keyed key.now.block text

-- the validator with this number, if it is one
abbrev pub validator_numbered : Option ℕ → Result ℕ Reason
validator_numbered None = Err why.Validator
validator_numbered (Some number) = if nat_lt number (2 ^ 32) then Ok number else Err why.Validator

-- the validator of a device that was looked up
abbrev pub device_named : Option ℕ → Result ℕ Reason
device_named None = Err why.Device
device_named (Some number) = Ok number

-- the validator that a field gives: it writes the number or, if there are devices, is the name of
-- one
abbrev pub validator_in : Option (Bor DeviceTable) → List ℕ → Result ℕ Reason
validator_in None text = validator_numbered (whole_number_in text)
validator_in (Some devices) text = device_named (validator_of (devices_of devices.now) text)

-- the number of riders that a field gives is 1
abbrev pub is_one : Option ℕ → Bool
is_one None = false
is_one (Some number) = number == 1

-- a column of numbers of riders, if there is one, has 1
abbrev pub is_one_rider : Option ℕ → List (List ℕ) → Bool
is_one_rider None row = true
is_one_rider (Some position) row = is_one (whole_number_in (field row position))

-- the tap of what its fields give, or why it is none: the first field that is wrong
abbrev pub tap_from : Option (List ℕ) → Result ℕ Reason → Result ℕ Reason → Reading
tap_from None validator moment = read.Refused why.Token
tap_from (Some token) (Err reason) moment = read.Refused reason
tap_from (Some token) (Ok validator) (Err reason) = read.Refused reason
tap_from (Some token) (Ok validator) (Ok moment) =
    read.Tap (record { token = token; validator = validator; moment = moment })

-- what a row that is kept is read as
abbrev pub kept_reading : Choice → HeadLayout → List (List ℕ) → Reading
kept_reading choice layout row =
    if is_one_rider layout.count row
    then tap_from (token_in choice.key choice.columns.now.has_hashes (field row layout.token))
    (validator_in choice.devices (field row layout.validator))
    (moment_under choice.columns.now.format choice.columns.now.unit choice.clock
    (field row layout.moment))
    else read.Refused why.Riders

-- what a row is read as, if the columns are here: a tap that is kept, a row that is not, or one
-- that is not a tap
abbrev pub reading_by : Choice → HeadLayout → List (List ℕ) → Reading
reading_by choice layout row =
    if length row == layout.width
    then (if is_kept layout row then kept_reading choice layout row else read.LeftOut)
    else read.Refused why.Fields

-- what a row is read as under this head
abbrev pub reading_of : Choice → List (List ℕ) → List (List ℕ) → Reading
reading_of choice head row = reading_by choice (layout_in choice head) row

abbrev pub IsParseOf : Choice → List (List ℕ) → List (List ℕ) → Reading → Type 0
IsParseOf choice head row reading = reading ≡ reading_of choice head row
