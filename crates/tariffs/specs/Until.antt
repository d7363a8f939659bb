-- Where a window ends that starts at a moment.
use Rattle.jiff.specs.Types.{Date, DateTime, TimeZone, Posix, UTC, Offset, AmbiguousOffset}
use Rattle.jiff.specs.Types.{Unambiguous}
use Rattle.jiff.specs.Words.{epoch_day, civil_nanos, time_nanos, nanos_of_seconds, offset_at}
use Rattle.jiff.specs.Words.{compatible_offset, month_length, picked_instant, weekday_of}
use Rattle.jiff_core.specs.Calendar.{days_from_civil, weekday_number}
use Rattle.jiff_tz.specs.PosixRule.{ambiguous_by, nanos_per_day, rule_nanos}
use Rattle.jiff_tz.specs.Year.{year_of_day}
use Rattle.jiff_tz.specs.declared.posix.{Dst.Dst, TimeZone.TimeZone as PosixRule}
use Rattle.std.specs.{Int.int_div_euclid, Int.int_max, Prelude.◌≡◌}
use Rattle.std.specs.Prelude.{ℕ, zero, suc, ℤ, pos, ◌+◌, ◌-◌, ◌*◌, ◌+ℤ◌, ◌-ℤ◌, ◌*ℤ◌, ◌<ℤ◌, ◌≤ℤ◌}
use Rattle.std.specs.Prelude.{unsigned_abs, int_div, int_lt, max, Option, Some, None, if◌then◌else◌}
use Rattle.tariffs.specs.{ClockView.ClockView, Fares.Fares, Fares.meaning_at}
use Rattle.tariffs.specs.declared.window_span.WindowLength.{WindowLength}
use Rattle.tariffs.specs.declared.window_span.WindowLength.TheVariants.{Days, CalendarDay}
use Rattle.tariffs.specs.declared.window_span.WindowLength.TheVariants.{CalendarMonth, CalendarWeek}
use Rattle.tariffs.specs.declared.window_span.WindowSpan.{WindowSpan}
use Rattle.jiff_tz.specs.PosixRule as rule

-- the moment in nanoseconds since 1970-01-01T00:00Z
abbrev pub moment_nanos : ℕ → ℤ
moment_nanos moment = pos (moment * 1_000_000)

-- how many seconds the zone's clocks are ahead of UTC at the moment
abbrev pub seconds_ahead : PosixRule → ℕ → ℤ
seconds_ahead zone moment = offset_at (Posix zone) (moment_nanos moment)

-- the nanoseconds from 00:00 to the start of a day, of minutes
abbrev pub day_start_nanos : ℕ → ℕ
day_start_nanos minutes = minutes * 60_000_000_000

-- The date that clocks of the zone show at the moment if they are set back to 00:00 as a day starts:
-- a moment before that is of the date before.
pub record IsDayAt (zone : TimeZone) (day_starts moment : ℕ) (day : Date) : Type 0 where
  pub shown : DateTime
  pub date : day ≡ shown.date
  pub shows : civil_nanos shown
      ≡ (moment_nanos moment -ℤ pos (day_start_nanos day_starts))
      +ℤ nanos_of_seconds (offset_at zone (moment_nanos moment))

-- The date as which a window ends that starts on the date that is shown: the Nth after it, the next
-- one, the next Monday, or the one after the last of its month.
abbrev pub IsEndDate : WindowLength → Date → Date → Type 0
IsEndDate (Days count) shown later = epoch_day later ≡ epoch_day shown +ℤ pos count
IsEndDate CalendarDay shown later = epoch_day later ≡ epoch_day shown +ℤ pos 1
IsEndDate CalendarWeek shown later =
    (weekday_of later ≡ 0) × (epoch_day shown <ℤ epoch_day later)
    × (epoch_day later ≤ℤ (epoch_day shown +ℤ pos 7))
IsEndDate CalendarMonth shown later =
    epoch_day later ≡ days_from_civil shown.year shown.month (month_length shown) +ℤ pos 1

-- The window ends as the day of its end date starts by the clocks of the zone, and at least a
-- millisecond after its start. A time that is skipped takes the offset before the gap, and of one
-- that comes twice the earlier counts.
pub record IsCivilWindowEnd (zone : TimeZone) (span : WindowSpan) (start window_end : ℕ)
    : Type 0 where
  pub day : Date
  pub is_day : IsDayAt zone span.day_starts start day
  pub end : DateTime
  pub date : IsEndDate span.length day end.date
  pub time : time_nanos end.time ≡ day_start_nanos span.day_starts
  pub at : moment_nanos window_end
      ≡ int_max (moment_nanos (start + 1)) (picked_instant zone end)

-- a day in milliseconds
abbrev pub day_millis : ℕ
day_millis = 86_400_000

-- the end of a window of a table without a zone: its days, of 24 hours each, after its start, or a
-- start of a day of UTC
abbrev pub IsPlainEndOf : WindowLength → WindowSpan → ℕ → ℕ → Type 0
IsPlainEndOf (Days count) span start window_end =
    window_end ≡ start + max 1 (count * day_millis)
IsPlainEndOf CalendarDay span start window_end = IsCivilWindowEnd UTC span start window_end
IsPlainEndOf CalendarWeek span start window_end = IsCivilWindowEnd UTC span start window_end
IsPlainEndOf CalendarMonth span start window_end = IsCivilWindowEnd UTC span start window_end

-- the same by the length of the span
abbrev pub IsPlainWindowEnd : WindowSpan → ℕ → ℕ → Type 0
IsPlainWindowEnd span start window_end = IsPlainEndOf span.length span start window_end

-- the end of a window, in the zone or without one
abbrev pub IsWindowEndBy : Option PosixRule → WindowSpan → ℕ → ℕ → Type 0
IsWindowEndBy None span start window_end = IsPlainWindowEnd span start window_end
IsWindowEndBy (Some zone) span start window_end =
    IsCivilWindowEnd (Posix zone) span start window_end

-- the end of a window by a clock
abbrev pub IsWindowEnd : ClockView → WindowSpan → ℕ → ℕ → Type 0
IsWindowEnd clock span start window_end = IsWindowEndBy clock.rule span start window_end

-- ---- the same as a function of the start
-- the day on which the next month begins: the first of the months of the year, from this one on,
-- that begins after the day, else the next year
abbrev pub next_month : ℤ → ℤ → ℕ → ℕ → ℤ
next_month day year month zero = days_from_civil (year +ℤ pos 1) 1 1
next_month day year month (suc more) =
    if int_lt day (days_from_civil year month 1) then days_from_civil year month 1
    else next_month day year (suc month) more

-- the day at whose start a window ends that starts on this day
abbrev pub end_day : WindowLength → ℤ → ℤ
end_day (Days count) day = day +ℤ pos count
end_day CalendarDay day = day +ℤ pos 1
end_day CalendarWeek day = day +ℤ pos (7 - weekday_number day)
end_day CalendarMonth day = next_month day (year_of_day day) 2 11

-- the milliseconds of the instant, and at least one after the start
abbrev pub end_millis : ℕ → ℤ → ℕ
end_millis start instant =
    unsigned_abs (int_div (int_max (moment_nanos (start + 1)) instant) (pos 1_000_000))

-- the first nanosecond of a day on a civil clock
abbrev pub midnight_nanos : ℤ → ℤ
midnight_nanos day = day *ℤ nanos_per_day

-- the offsets of a moment of a year on a clock of the zone
abbrev pub offsets_by : Offset → Option Dst → ℤ → ℤ → AmbiguousOffset
offsets_by std None year at = Unambiguous std
offsets_by std (Some dst) year at = ambiguous_by std dst.offset
    (rule_nanos year dst.rule.start (pos 0), rule_nanos year dst.rule.end (pos 0)) at

-- the nanosecond at which a day starts on a civil clock
abbrev pub start_nanos : ℕ → ℤ → ℤ
start_nanos day_starts day = midnight_nanos day +ℤ pos (day_start_nanos day_starts)

-- the offset that a time of the day takes, by its nanosecond on a civil clock
abbrev pub civil_offset : PosixRule → ℤ → ℤ → Offset
civil_offset zone day at =
    compatible_offset (offsets_by zone.std_offset zone.dst (year_of_day day) at)

-- the instant of a time of the day
abbrev pub civil_instant : PosixRule → ℤ → ℤ → ℤ
civil_instant zone day at = at -ℤ nanos_of_seconds (civil_offset zone day at).seconds

-- the instant at which a day starts
abbrev pub start_instant : PosixRule → ℕ → ℤ → ℤ
start_instant zone day_starts day = civil_instant zone day (start_nanos day_starts day)

-- the instant of 00:00 of a day, in the zone or without one in UTC
abbrev pub midnight_by : Option PosixRule → ℤ → ℤ
midnight_by None day = midnight_nanos day
midnight_by (Some zone) day = civil_instant zone day (midnight_nanos day)

-- the day of an instant in the zone: that which clocks show if they are set back to 00:00 as it
-- starts
abbrev pub day_at : PosixRule → ℕ → ℤ → ℤ
day_at zone day_starts instant =
    int_div_euclid ((instant -ℤ pos (day_start_nanos day_starts))
    +ℤ nanos_of_seconds (rule.offset_at zone instant).seconds) nanos_per_day

-- the milliseconds of the start of the end day in the zone
unfoldable pub civil_window_end : PosixRule → WindowSpan → ℕ → ℕ
civil_window_end zone span start =
    end_millis start (start_instant zone span.day_starts
    (end_day span.length (day_at zone span.day_starts (moment_nanos start))))

-- the milliseconds of the start of the end day in UTC
unfoldable pub utc_window_end : WindowSpan → ℕ → ℕ
utc_window_end span start =
    end_millis start (start_nanos span.day_starts (end_day span.length
    (int_div_euclid (moment_nanos start -ℤ pos (day_start_nanos span.day_starts)) nanos_per_day)))

-- the end of a window of a table without a zone
abbrev pub plain_end_of : WindowLength → WindowSpan → ℕ → ℕ
plain_end_of (Days count) span start = start + max 1 (count * day_millis)
plain_end_of CalendarDay span start = utc_window_end span start
plain_end_of CalendarWeek span start = utc_window_end span start
plain_end_of CalendarMonth span start = utc_window_end span start

-- the same by the length of the span
abbrev pub plain_window_end : WindowSpan → ℕ → ℕ
plain_window_end span start = plain_end_of span.length span start

-- the end of a window, in the zone or without one
abbrev pub window_end_by : Option PosixRule → WindowSpan → ℕ → ℕ
window_end_by None span start = plain_window_end span start
window_end_by (Some zone) span start = civil_window_end zone span start

-- the end of a window that starts at the moment, by a clock
abbrev pub window_end_in : ClockView → WindowSpan → ℕ → ℕ
window_end_in clock span start = window_end_by clock.rule span start

-- the end of a window that starts at the moment: windows are as long as the table says that is
-- valid then
abbrev pub until : Fares → ℕ → ℕ
until fares start = window_end_in fares.zone (meaning_at fares start).window start
