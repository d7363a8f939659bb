-- The moment that a field gives by a format of `strptime`: by its instant, or by its date and its
-- clock, which are read as RFC 3339 writes them.
use Rattle.jiff_core.specs.declared.error.Error.{Error}
use Rattle.jiff_strtime.specs.{Reader.parse_text, Text.Parts}
use Rattle.std.specs.{Borrow.Bor, Prelude.◌==◌, Prelude.◌+◌, Prelude.◌/◌}
use Rattle.std.specs.Prelude.{◌%◌, ◌++◌, ℕ, ℤ, pos, negsuc, List, [], ◌∷◌, Err, None, Ok, Option}
use Rattle.std.specs.Prelude.{Result, Some, if◌then◌else◌, is_some, option_map, unsigned_abs, unwrap_or}
use Rattle.tap_rows.specs.AgencyMoments.{clock_moment, moment_in, moment_of, whole_ms}
use Rattle.tap_rows.specs.declared.agency.choice.{LocalClock.LocalClock, Unit.Unit}
use Rattle.tap_rows.specs.declared.agency.reading.Reason.{Reason}
use Rattle.tap_rows.specs.declared.agency.reading.Reason.TheVariants as why

-- the last two decimal digits of a number
abbrev pub tens : ℕ → ℕ
tens number = 48 + number / 10 % 10

abbrev pub ones : ℕ → ℕ
ones number = 48 + number % 10

abbrev pub two : ℕ → List ℕ
two number = tens number ∷ ones number ∷ []

-- a date, and a clock with milliseconds
abbrev pub clock_text : (year month day hour minute second millisecond : ℕ) → List ℕ
clock_text year month day hour minute second millisecond =
    two (year / 100) ++ (two year ++ (45 ∷ (two month ++ (45 ∷ (two day ++ (84 ∷ (two hour
    ++ (58 ∷ (two minute ++ (58 ∷ (two second ++ (46 ∷ ones (millisecond / 100)
    ∷ two millisecond))))))))))))

-- the clock of parts that have a year that is not negative, a month, a day, an hour and a minute
abbrev pub clock_by : Option ℤ → (month day hour minute : Option ℕ) → (second nanos : ℕ)
    → Option (List ℕ)
clock_by (Some (pos year)) (Some month) (Some day) (Some hour) (Some minute) second nanos =
    Some (clock_text year month day hour minute second (nanos / 1_000_000))
clock_by _ _ _ _ _ _ _ = None

abbrev pub clock_in : Parts → Option (List ℕ)
clock_in parts = clock_by parts.year parts.month parts.day parts.hour parts.minute
    (unwrap_or parts.second 0) (unwrap_or parts.subsec 0)

abbrev pub sign_of : ℤ → ℕ
sign_of (pos seconds) = 43
sign_of (negsuc seconds) = 45

-- an offset of whole minutes
abbrev pub shift_in : ℤ → Option (List ℕ)
shift_in seconds = if unsigned_abs seconds % 60 == 0
    then Some (sign_of seconds ∷ (two (unsigned_abs seconds / 3600)
    ++ (58 ∷ two (unsigned_abs seconds / 60 % 60))))
    else None

-- the clock with its offset, if it has one
abbrev pub at_shift : Option ℤ → List ℕ → Option (List ℕ)
at_shift None clock = Some (clock ++ [])
at_shift (Some seconds) clock = option_map (λ shift. clock ++ (shift ++ [])) (shift_in seconds)

abbrev pub with_clock : Option ℤ → Option (List ℕ) → Option (List ℕ)
with_clock offset None = None
with_clock offset (Some clock) = at_shift offset clock

-- what the parts are in RFC 3339, if they are a date and a clock. The name of a zone is not looked
-- up, so that parts with one are none.
abbrev pub rfc_text : Option (List ℕ) → Parts → Option (List ℕ)
rfc_text (Some zone) parts = None
rfc_text None parts = with_clock parts.offset (clock_in parts)

abbrev pub text_moment : Unit → Option LocalClock → Option (List ℕ) → Result ℕ Reason
text_moment counted local None = Err why.Moment
text_moment counted local (Some text) = clock_moment counted local text

-- the moment of the parts: that of their instant, if they have one, else of their clock. An instant has
-- no fraction beside it.
abbrev pub parts_moment : Unit → Option LocalClock → Option ℤ → Parts → Result ℕ Reason
parts_moment counted local (Some nanos) parts =
    if is_some parts.subsec then Err why.Moment else moment_of counted (whole_ms nanos)
parts_moment counted local None parts = text_moment counted local (rfc_text parts.iana parts)

abbrev pub parsed_moment : Unit → Option LocalClock → Result Parts Error → Result ℕ Reason
parsed_moment counted local (Err error) = Err why.Moment
parsed_moment counted local (Ok parts) = parts_moment counted local parts.timestamp parts

-- the moment that a field gives, by the format if there is one, or why it gives none
abbrev pub moment_under : Option (Bor (List ℕ)) → Unit → Option LocalClock → List ℕ
    → Result ℕ Reason
moment_under None counted local text = moment_in counted local text
moment_under (Some format) counted local text =
    parsed_moment counted local (parse_text format.now text)
