-- The moment of a tap, as the field of an agency's row gives it: by a plain number, or by the date
-- and the clock of RFC 3339, with an offset or of a zone. What is less than a millisecond is
-- dropped.
use Rattle.jiff_core.specs.Timestamp.{nanos_of_seconds}
use Rattle.jiff_core.specs.declared.{Offset.Offset, error.Error.Error}
use Rattle.jiff_fmt.specs.Temporal.{parse_datetime, parse_timestamp}
use Rattle.std.specs.Prelude.{◌==◌, ◌&&◌, ◌||◌, ◌+◌, ◌*◌, ◌/◌, ◌^◌, ◌++◌, ℕ, ℤ, pos, Bool, not, []}
use Rattle.std.specs.Prelude.{◌-ℤ◌, negsuc, Err, List, None, Ok, Option, Result, Some, codes, drop}
use Rattle.std.specs.Prelude.{if◌then◌else◌, length, min, nat_le, nat_lt, option_map, slice_index}
use Rattle.std.specs.{Prelude.take, Str.bytes_eq}
use Rattle.tap_rows.specs.LocalTimes.{Written, clock_nanos, offset_at}
use Rattle.tap_rows.specs.Numbers.{decimal_in, digits_len, fraction_len, thousandths_in}
use Rattle.tap_rows.specs.declared.agency.choice.{LocalClock.LocalClock, Unit.Unit}
use Rattle.tap_rows.specs.declared.agency.reading.Reason.{Reason}
use Rattle.tap_views.specs.Layout.{moment_limit}
use Rattle.tap_rows.specs.declared.agency.choice.Unit.TheVariants as unit
use Rattle.tap_rows.specs.declared.agency.reading.Reason.TheVariants as why

-- at the positions at which `2024-03-08T17:00:00` has its dashes, its `T` and its colons, this text
-- has them too, or a `t` or a blank for the `T`
abbrev pub has_clock : List ℕ → Bool
has_clock text =
    nat_le 19 (length text) && (slice_index text 4 == 45 && (slice_index text 7 == 45
    && ((slice_index text 10 == 84 || (slice_index text 10 == 116 || slice_index text 10 == 32))
    && (slice_index text 13 == 58 && slice_index text 16 == 58))))

-- ---- a clock with an offset
-- the text begins with a sign, and hours below 24 if digits follow it
abbrev pub has_shift : List ℕ → Bool
has_shift text = (slice_index text 0 == 43 || slice_index text 0 == 45)
    && (nat_lt (slice_index text 1) 50
    || (slice_index text 1 == 50 && nat_lt (slice_index text 2) 52))

-- the offset, as RFC 3339 writes it, for one that is `Z`, `z`, ` UTC`, `+01`, `+0100` or `+01:00`
abbrev pub offset_in : List ℕ → Option (List ℕ)
offset_in text =
    if bytes_eq text (codes "Z") || (bytes_eq text (codes "z") || bytes_eq text (codes " UTC"))
    then Some (codes "Z")
    else (if length text == 3 && has_shift text then Some (text ++ codes ":00")
    else (if length text == 5 && has_shift text
    then Some (take 3 text ++ (codes ":" ++ drop 3 text))
    else (if length text == 6 && (has_shift text && slice_index text 3 == 58) then Some text
    else None)))

-- what follows the seconds of a clock: a fraction, if there is one, and an offset
abbrev pub after_clock : List ℕ → List ℕ
after_clock text = drop 19 text

-- what is written after the seconds and their fraction
abbrev pub after_fraction : List ℕ → List ℕ
after_fraction text = drop (fraction_len (after_clock text)) (after_clock text)

-- a clock with at most three digits of a fraction, and an offset
abbrev pub instant_text : List ℕ → List ℕ → List ℕ
instant_text text offset =
    take 19 text ++ (take (min (fraction_len (after_clock text)) 4) (after_clock text) ++ offset)

-- the whole milliseconds of a number of nanoseconds that is not negative
abbrev pub whole_ms : ℤ → Option ℕ
whole_ms (pos nanos) =
    if nat_lt (nanos / 1_000_000) (2 ^ 64) then Some (nanos / 1_000_000) else None
whole_ms (negsuc nanos) = None

-- those of an instant, from 1970-01-01T00:00Z on
abbrev pub instant_ms : Result ℤ Error → Option ℕ
instant_ms (Ok nanos) = whole_ms nanos
instant_ms (Err error) = None

-- the instant that a clock with an offset gives, in milliseconds since 1970-01-01T00:00Z
abbrev pub instant_in : List ℕ → List ℕ → Option ℕ
instant_in text offset = instant_ms (parse_timestamp (instant_text text offset))

-- ---- a plain number
-- how many milliseconds so many of what a plain number counts are, and so many thousandths of one
abbrev pub scaled : Unit → ℕ → ℕ → ℕ
scaled unit.Unsaid number thousandths = number
scaled unit.Seconds number thousandths = number * 1_000 + thousandths
scaled unit.Milliseconds number thousandths = number
scaled unit.Microseconds number thousandths = number / 1_000

-- the text is a fraction with a digit, or nothing
abbrev pub is_fraction : List ℕ → Bool
is_fraction text = fraction_len text == length text && not (length text == 1)

-- the milliseconds that a plain number counts
abbrev pub plain_ms : Unit → List ℕ → Option ℕ
plain_ms counted text =
    if is_fraction (drop (digits_len text) text)
    then option_map
    (λ number. scaled counted number (thousandths_in (drop (digits_len text) text)))
    (decimal_in (take (digits_len text) text))
    else None

-- ---- the moment
-- the earliest moment that is read: if nobody says what a plain number counts, 2000-01-01T00:00Z,
-- so that no seconds are taken for milliseconds
abbrev pub earliest_ms : Unit → ℕ
earliest_ms unit.Unsaid = 946_684_800_000
earliest_ms unit.Seconds = 0
earliest_ms unit.Milliseconds = 0
earliest_ms unit.Microseconds = 0

-- the time as a moment that a tap can have: not before the earliest, and below the limit
abbrev pub moment_of : Unit → Option ℕ → Result ℕ Reason
moment_of counted None = Err why.Moment
moment_of counted (Some ms) = if nat_lt ms (earliest_ms counted) then Err why.Early
    else (if nat_lt ms moment_limit then Ok ms else Err why.Moment)

-- the moment of a clock with this offset, if it is one
abbrev pub offset_moment : Unit → List ℕ → Option (List ℕ) → Result ℕ Reason
offset_moment counted text None = Err why.Moment
offset_moment counted text (Some offset) = moment_of counted (instant_in text offset)

-- the moment of a date and a clock at its offset, if it has one
abbrev pub moment_by : Unit → Written → Result Offset Reason → Result ℕ Reason
moment_by counted time (Err reason) = Err reason
moment_by counted time (Ok offset) =
    moment_of counted (whole_ms (clock_nanos time -ℤ nanos_of_seconds offset.seconds))

-- the moment of a local time that was read, on this clock
abbrev pub written_moment : Unit → LocalClock → Result Written Error → Result ℕ Reason
written_moment counted local (Err error) = Err why.Moment
written_moment counted local (Ok time) = moment_by counted time (offset_at local time)

-- the moment of a local time, if there is a clock of local times
abbrev pub local_moment : Unit → Option LocalClock → List ℕ → Result ℕ Reason
local_moment counted None text = Err why.LocalTime
local_moment counted (Some local) text =
    written_moment counted local (parse_datetime (instant_text text []))

-- the moment of a date and a clock; with nothing after its seconds it is a local time
abbrev pub clock_moment : Unit → Option LocalClock → List ℕ → Result ℕ Reason
clock_moment counted local text =
    if length (after_fraction text) == 0 then local_moment counted local text
    else offset_moment counted text (offset_in (after_fraction text))

-- the moment that a field gives, or why it gives none
abbrev pub moment_in : Unit → Option LocalClock → List ℕ → Result ℕ Reason
moment_in counted local text = if has_clock text then clock_moment counted local text
    else moment_of counted (plain_ms counted text)
