-- What clocks of a table's zone show at a moment.
use Rattle.jiff_core.specs.Calendar.{days_from_civil, days_in_month}
use Rattle.jiff_core.specs.Timestamp.{nanos_of_seconds}
use Rattle.jiff_fmt.specs.Text.{fraction_part, offset_text, pad2, year_text}
use Rattle.jiff_tz.specs.{PosixRule.offset_at, Year.year_of_day}
use Rattle.jiff_tz.specs.declared.posix.TimeZone.{TimeZone as PosixRule}
use Rattle.std.specs.{Int.int_div_euclid, Int.int_rem_euclid, Prelude.ℕ, Prelude.zero}
use Rattle.std.specs.Prelude.{suc, ◌+◌, ◌-◌, ◌/◌, ◌%◌, nat_lt, if◌then◌else◌, ℤ, ◌+ℤ◌, ◌-ℤ◌, pos}
use Rattle.std.specs.Prelude.{unsigned_abs, List, [], ◌∷◌, ◌++◌, Option, None, Some, option_map}
use Rattle.tariffs.specs.{ClockView.ClockView, Until.moment_nanos}

-- the month and the day of it that are so many days after the first of a month of the year, in that
-- month or one of so many after it
unfoldable pub month_day : ℤ → ℕ → ℕ → ℕ → ℕ × ℕ
month_day year month zero days = (month, days + 1)
month_day year month (suc more) days =
    if nat_lt days (days_in_month year month) then (month, days + 1)
    else month_day year (month + 1) more (days - days_in_month year month)

-- the same of a day number in its year
abbrev pub month_day_of : ℤ → ℤ → ℕ × ℕ
month_day_of year day = month_day year 1 11 (unsigned_abs (day -ℤ days_from_civil year 1 1))

-- `2024-03-08`, from the parts of a date
abbrev pub date_by : ℤ → ℕ × ℕ → List ℕ
date_by year month_day = year_text year ++ 45 ∷ [] ++ pad2 month_day.0 ++ 45 ∷ [] ++ pad2 month_day.1

-- the date of a day number
abbrev pub date_words : ℤ → List ℕ
date_words day = date_by (year_of_day day) (month_day_of (year_of_day day) day)

-- `12:00:00.25`: the time of day that is these nanoseconds after midnight
abbrev pub time_words : ℕ → List ℕ
time_words nanos =
    pad2 (nanos / 3_600_000_000_000) ++ 58 ∷ pad2 (nanos / 60_000_000_000 % 60)
    ++ 58 ∷ pad2 (nanos / 1_000_000_000 % 60) ++ fraction_part None (nanos % 1_000_000_000)

-- `2024-03-08T12:00:00`: what a clock shows that is these nanoseconds after 1970-01-01T00:00
abbrev pub shown_words : ℤ → List ℕ
shown_words nanos =
    date_words (int_div_euclid nanos (pos 86_400_000_000_000))
    ++ 84 ∷ time_words (unsigned_abs (int_rem_euclid nanos (pos 86_400_000_000_000)))

-- `2024-03-08T12:00:00-05:00`: what the zone's clocks show at the moment, with fractions of a second
-- if it has some, and how far they are ahead of UTC
unfoldable pub clock_words : PosixRule → ℕ → List ℕ
clock_words zone moment =
    let offset = offset_at zone (moment_nanos moment) in
    shown_words (moment_nanos moment +ℤ nanos_of_seconds offset.seconds) ++ offset_text offset

-- what clocks of the zone show; none without a zone, and past the calendar's end, which no tap has
abbrev pub local_at : Option PosixRule → ℕ → Option (List ℕ)
local_at zone moment =
    if nat_lt moment 253_402_207_200_000 then option_map (λ z. clock_words z moment) zone else None

-- the words and what clocks show, if they show something
abbrev pub after_words : List ℕ → Option (List ℕ) → List ℕ
after_words words None = []
after_words words (Some clock) = words ++ clock

-- the words and what clocks of the table's zone show at the moment
abbrev pub local_words : ClockView → List ℕ → ℕ → List ℕ
local_words clocks words moment = after_words words (local_at clocks.rule moment)
