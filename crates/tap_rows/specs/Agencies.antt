-- An agency's CSV as a whole: what its rows are read as, the upload of their taps, the rows that
-- are refused, and their summary.
use Rattle.std.specs.{Fmt.decimal, List.AllZip, List.sum_by}
use Rattle.std.specs.Prelude.{◌≡◌, ℕ, ◌+◌, List, [], ◌∷◌, ◌++◌, Option, Some, None, length, codes}
use Rattle.std.specs.Prelude.{slice_get, IsSomeAnd, flat_map, map}
use Rattle.tap_rows.specs.AgencyRows.{IsColumn, IsParseOf}
use Rattle.tap_rows.specs.AgencyTexts.{HasRecords, first_record, record_text, separator_byte}
use Rattle.tap_rows.specs.declared.agency.choice.{Choice.Choice, Condition.Condition}
use Rattle.tap_rows.specs.declared.agency.choice.Separator.{Separator}
use Rattle.tap_rows.specs.declared.agency.fault.{AgencyFault.AgencyFault, Wanted.Wanted}
use Rattle.tap_rows.specs.declared.agency.reading.{Reading.Reading, Reason.Reason}
use Rattle.tap_rows.specs.declared.agency.summary.Summary.{Summary}
use Rattle.tap_views.specs.{Facts.IsSpan, Files.IsFileOf, declared.encoder.TapFields.TapFields}
use Rattle.tap_rows.specs.declared.agency.fault.AgencyFault.TheVariants as fault
use Rattle.tap_rows.specs.declared.agency.fault.Wanted.TheVariants as wanted
use Rattle.tap_rows.specs.declared.agency.reading.Reading.TheVariants as read
use Rattle.tap_rows.specs.declared.agency.reading.Reason.TheVariants as why

-- the head has no column of this name, or more than one
abbrev pub HasNoColumn : List (List ℕ) → List ℕ → Type 0
HasNoColumn head name = (position : ℕ) → ¬ (IsColumn head name position)

-- one of the conditions is of a column that the head lacks: the one at this position
abbrev pub LacksColumnAt : List (List ℕ) → List Condition → ℕ → Type 0
LacksColumnAt head conditions position = IsSomeAnd (slice_get conditions position)
    (λ condition. HasNoColumn head condition.column.now)

-- the head lacks this column of the choice
abbrev pub IsWanting : Choice → List (List ℕ) → Wanted → Type 0
IsWanting choice head wanted.Token = HasNoColumn head choice.columns.now.token.now
IsWanting choice head wanted.Validator = HasNoColumn head choice.columns.now.validator.now
IsWanting choice head wanted.Moment = HasNoColumn head choice.columns.now.moment.now
IsWanting choice head (wanted.Only position) =
    LacksColumnAt head choice.columns.now.only.items position
IsWanting choice head (wanted.Without position) =
    LacksColumnAt head choice.columns.now.without.items position
IsWanting choice head wanted.Count =
    IsSomeAnd choice.columns.now.count (λ name. HasNoColumn head name.now)

-- the text has a head and these rows, the head lacks no column of the choice, and each row is read
-- as the reading at its position
pub record IsRead (choice : Choice) (text : List ℕ) (head : List (List ℕ))
    (rows : List (List (List ℕ))) (readings : List Reading) : Type 0 where
  pub records : HasRecords choice.columns.now.separator text (head ∷ rows)
  pub columns : (column : Wanted) → ¬ (IsWanting choice head column)
  pub each : AllZip (IsParseOf choice head) rows readings

-- the tap of a reading, if it is one
abbrev pub tap_of : Reading → List TapFields
tap_of (read.Tap tap) = tap ∷ []
tap_of read.LeftOut = []
tap_of (read.Refused reason) = []

-- the taps of the readings, in their order
abbrev pub taps_in : List Reading → List TapFields
taps_in readings = flat_map tap_of readings

-- how many of a reading's row are left out
abbrev pub left_out_of : Reading → ℕ
left_out_of (read.Tap tap) = 0
left_out_of read.LeftOut = 1
left_out_of (read.Refused reason) = 0

-- how many rows are left out
abbrev pub left_out_in : List Reading → ℕ
left_out_in readings = sum_by left_out_of readings

-- a refused row, with its number
pub record Refusal : Type 0 where
  pub number : ℕ
  pub reason : Reason
  pub row : List (List ℕ)

-- a reading's row of this number, if it is refused
abbrev pub refusal_of : ℕ → List (List ℕ) → Reading → List Refusal
refusal_of number row (read.Tap tap) = []
refusal_of number row read.LeftOut = []
refusal_of number row (read.Refused reason) =
    record { number = number; reason = reason; row = row } ∷ []

-- the refused rows, in their order; the first row has this number
abbrev pub refusals_from : ℕ → List (List (List ℕ)) → List Reading → List Refusal
refusals_from number [] readings = []
refusals_from number (row ∷ rows) [] = []
refusals_from number (row ∷ rows) (reading ∷ readings) =
    refusal_of number row reading ++ refusals_from (number + 1) rows readings

-- the refused rows of a text, whose head is row 1
abbrev pub refusals : List (List (List ℕ)) → List Reading → List Refusal
refusals rows readings = refusals_from 2 rows readings

-- the word for a reason
abbrev pub reason_word : Reason → List ℕ
reason_word why.Fields = codes "fields"
reason_word why.Token = codes "token"
reason_word why.Validator = codes "validator"
reason_word why.Device = codes "device"
reason_word why.LocalTime = codes "local time"
reason_word why.Skipped = codes "skipped time"
reason_word why.Twice = codes "time twice"
reason_word why.Early = codes "before 2000"
reason_word why.Moment = codes "moment"
reason_word why.Riders = codes "riders"

-- a refused row as it is written: its number, its reason, and its fields
abbrev pub refusal_text : Separator → Refusal → List ℕ
refusal_text separator refusal =
    decimal refusal.number ++ separator_byte separator
    ∷ (reason_word refusal.reason ++ separator_byte separator ∷ record_text separator refusal.row)

-- the head of the refused rows
abbrev pub refusals_head : Separator → List (List ℕ) → List ℕ
refusals_head separator head =
    codes "row" ++ separator_byte separator
    ∷ (codes "reason" ++ separator_byte separator ∷ record_text separator head)

-- the refused rows as they are written, after the head
abbrev pub refusals_text : Separator → List (List ℕ) → List Refusal → List ℕ
refusals_text separator head refused =
    refusals_head separator head ++ flat_map (refusal_text separator) refused

-- the number and the reason of the first refused row, if there is one
abbrev pub first_refusal : List Refusal → Option (ℕ × Reason)
first_refusal [] = None
first_refusal (refusal ∷ refused) = Some (refusal.number, refusal.reason)

-- the summary is that of these rows, read so
pub record IsSummary (rows : List (List (List ℕ))) (readings : List Reading) (summary : Summary)
    : Type 0 where
  pub taps : summary.taps ≡ length (taps_in readings)
  pub left_out : summary.left_out ≡ left_out_in readings
  pub refused : summary.refused ≡ length (refusals rows readings)
  pub sum : summary.taps + summary.left_out + summary.refused ≡ length rows
  pub first_refused : summary.first_refused ≡ first_refusal (refusals rows readings)
  pub moments : IsSpan (map (λ tap. tap.moment) (taps_in readings)) summary.span

-- the text is read whole. The file is an upload with no fault, of exactly the taps of the rows that
-- are kept, in their order; and these are the refused rows, as they are written
pub record IsRowsEncoded (choice : Choice) (text file refused : List ℕ) (summary : Summary)
    : Type 0 where
  pub head : List (List ℕ)
  pub rows : List (List (List ℕ))
  pub readings : List Reading
  pub is_read : IsRead choice text head rows readings
  pub upload : IsFileOf file (taps_in readings)
  pub refused_are : refused
      ≡ refusals_text choice.columns.now.separator head (refusals rows readings)
  pub summary_is : IsSummary rows readings summary

-- the row of this number is the first that is refused, for this reason
pub record IsFirstRefused (choice : Choice) (text : List ℕ) (number : ℕ) (reason : Reason)
    : Type 0 where
  pub head : List (List ℕ)
  pub rows : List (List (List ℕ))
  pub readings : List Reading
  pub is_read : IsRead choice text head rows readings
  pub first : first_refusal (refusals rows readings) ≡ Some (number, reason)

-- what a fault says of the text; that an allocation failed says nothing of it
abbrev pub IsAgencyFault : Choice → List ℕ → AgencyFault → Type 0
IsAgencyFault choice text (fault.Column wanted) =
    IsWanting choice (first_record choice.columns.now.separator text) wanted
IsAgencyFault choice text fault.NoMemory = Unit {0}
