-- What a clock shows, from the nanoseconds on it.
use Rattle.std.proofs.Common.{refl, sym, ap, ◌∙◌, arith, inl, inr}
use Rattle.fare_texts.specs.Local.{date_by, date_words, month_day, month_day_of, shown_words}
use Rattle.fare_texts.specs.Local.{clock_words, local_at, time_words}
use Rattle.jiff.proofs.Family.{time_nanos_bound, civil_nanos-parts, epoch_day-civil_nanos}
use Rattle.jiff.proofs.SpanFacts.{signed_arith}
use Rattle.jiff.specs.{Names.iso_datetime_text, Words.offset_at}
use Rattle.jiff_core.proofs.CalendarLemmas.{days_from_civil-day_count, days_of_months-zero}
use Rattle.jiff_core.proofs.CalendarLemmas.{days_of_months_mono, days_of_months_more}
use Rattle.jiff_core.specs.Calendar.{day_count, days_from_civil, days_in_month, days_of_months}
use Rattle.jiff_core.specs.{Calendar.days_of_years, Date.epoch_day, DateTime.civil_nanos}
use Rattle.jiff_core.specs.{Time.time_nanos, Timestamp.nanos_of_seconds}
use Rattle.jiff_core.specs.declared.civil.{date.Date.Date, datetime.DateTime.DateTime}
use Rattle.jiff_core.specs.declared.{civil.time.Time.Time, offset.Offset.Offset}
use Rattle.jiff_fmt.specs.Text.{date_text, fraction_part, offset_text, pad2, sign_byte, time_text}
use Rattle.jiff_tz.proofs.YearLemmas.{year_of_day-date}
use Rattle.jiff_tz.specs.declared.posix.TimeZone.{TimeZone as PosixRule}
use Rattle.std.proofs.lemmas.Bool.{cases_lt, Decides.nat_tests}
use Rattle.std.specs.Int.{int_div_euclid, int_rem_euclid}
use Rattle.std.specs.Prelude.{ℕ, zero, suc, ◌≡◌, ◌+◌, ◌-◌, ◌/◌, ◌%◌, ◌<◌, ◌≤◌, ℤ, pos, ◌-ℤ◌}
use Rattle.std.specs.Prelude.{unsigned_abs, nat_lt, if◌then◌else◌, List, ◌∷◌, ◌++◌, None, Some}
use Rattle.std.specs.Prelude.{Option, option_map, ◌+ℤ◌, true, false}
use Rattle.tariffs.specs.Until.{moment_nanos, seconds_ahead}
use Rattle.jiff_tz.specs.PosixRule as rule

-- the month and the day of a place in the year
month_day-is : (year : ℤ) (from more days month day : ℕ) → 1 ≤ from → from ≤ month
    → month ≤ from + more → 1 ≤ day → day ≤ days_in_month year month
    → days + days_of_months year (from - 1) + 1 ≡ days_of_months year (month - 1) + day
    → month_day year from more days ≡ (month, day)
unfolding month_day
month_day-is year from zero days month day some low high first last position =
    let same : month ≡ from = omega arith in
    let at = ap (λ m. days_of_months year (m - 1)) same in
    let is_day : days + 1 ≡ day = omega arith in
    cc
month_day-is year from (suc more) days month day some low high first last position =
    elim (cases_lt from month) [
      | inl less ↦
          let long = days_of_months_more year from some in
          let mono = days_of_months_mono year from (month - 1) (omega arith) in
          let long_enough : days_in_month year from ≤ days = omega arith in
          let not_here : nat_lt days (days_in_month year from) ≡ false = grind (arith, nat_tests) in
          let back : from + 1 - 1 ≡ from = omega arith in
          rw not_here (month_day-is year (from + 1) more (days - days_in_month year from) month day
          (omega arith) (omega arith) (omega arith) first last (rw back (omega arith)))
      | inr not_less ↦
          let same : month ≡ from = omega arith in
          let at = ap (λ m. days_of_months year (m - 1)) same in
          let long = ap (λ m. days_in_month year m) same in
          let is_day : days + 1 ≡ day = omega arith in
          let short : days < days_in_month year from = omega arith in
          let here : nat_lt days (days_in_month year from) ≡ true = grind (arith, nat_tests) in
          rw here cc
    ]

date_parts : (d : Date) → month_day_of d.year (epoch_day d) ≡ (d.month, d.day)
unfolding day_count
date_parts d =
    let years = days_of_years (unsigned_abs (d.year +ℤ pos 10000)) in
    let none = days_of_months-zero d.year in
    let first = days_from_civil-day_count d.year 1 1 in
    let its = days_from_civil-day_count d.year d.month d.day in
    let is_day : epoch_day d ≡ days_from_civil d.year d.month d.day = refl in
    let first_count : day_count d.year 1 1 ≡ years + (days_of_months d.year 0 + 1 - 1) = refl in
    let count : day_count d.year d.month d.day
    ≡ years + (days_of_months d.year (d.month - 1) + d.day - 1) = refl in
    let some : 1 ≤ d.day = d.day_in.0 in
    let position = days_of_months d.year (d.month - 1) + d.day - 1 in
    let after : epoch_day d -ℤ days_from_civil d.year 1 1 ≡ pos position = omega (arith, signed_arith) in
    let days : unsigned_abs (epoch_day d -ℤ days_from_civil d.year 1 1) ≡ position =
    ap unsigned_abs after in
    month_day-is d.year 1 11 (unsigned_abs (epoch_day d -ℤ days_from_civil d.year 1 1)) d.month d.day
    (omega arith) d.month_in.0 (omega (arith, d.month_in)) some d.day_in.1 (omega arith)

date_is : (d : Date) → date_text d ≡ date_words (epoch_day d)
date_is d =
    let year = year_of_day-date d in
    ap (λ (p : ℕ × ℕ). date_by d.year p) (sym (date_parts d))
    ∙ ap (λ (y : ℤ). date_by y (month_day_of y (epoch_day d))) (sym year)

-- the parts of a time of day
abbrev clock_by : ℕ → ℕ → ℕ → ℕ → List ℕ
clock_by h m s f = pad2 h ++ 58 ∷ pad2 m ++ 58 ∷ pad2 s ++ fraction_part None f

time_is : (t : Time) → time_text None t ≡ time_words (time_nanos t)
time_is t =
    let hour : t.hour ≡ time_nanos t / 3_600_000_000_000 = omega (arith, t.minute_in, t.second_in, t.subsec_in) in
    let minute : t.minute ≡ time_nanos t / 60_000_000_000 % 60 = omega (arith, t.minute_in, t.second_in, t.subsec_in) in
    let second : t.second ≡ time_nanos t / 1_000_000_000 % 60 = omega (arith, t.second_in, t.subsec_in) in
    let rest : t.subsec_nanosecond ≡ time_nanos t % 1_000_000_000 = omega (arith, t.subsec_in) in
    ap (λ n. clock_by n t.minute t.second t.subsec_nanosecond) hour
    ∙ ap (λ n. clock_by (time_nanos t / 3_600_000_000_000) n t.second t.subsec_nanosecond) minute
    ∙ ap (λ n. clock_by (time_nanos t / 3_600_000_000_000) (time_nanos t / 60_000_000_000 % 60) n t.subsec_nanosecond) second
    ∙ ap (λ n. clock_by (time_nanos t / 3_600_000_000_000) (time_nanos t / 60_000_000_000 % 60) (time_nanos t / 1_000_000_000 % 60) n) rest

-- what a clock shows, from its nanoseconds
pub shown_is : (dt : DateTime) (nanos : ℤ) → civil_nanos dt ≡ nanos
    → iso_datetime_text dt ≡ shown_words nanos
shown_is dt nanos e =
    let parts = civil_nanos-parts dt in
    let bound = time_nanos_bound dt.time in
    let day : epoch_day dt.date ≡ int_div_euclid nanos (pos 86_400_000_000_000) =
    epoch_day-civil_nanos dt ∙ ap (λ (n : ℤ). int_div_euclid n (pos 86_400_000_000_000)) e in
    let time : time_nanos dt.time ≡ unsigned_abs (int_rem_euclid nanos (pos 86_400_000_000_000)) =
    omega (arith, signed_arith) in
    ap (λ (d : List ℕ). d ++ 84 ∷ time_text None dt.time) (date_is dt.date)
    ∙ ap (λ (t : List ℕ). date_words (epoch_day dt.date) ++ 84 ∷ t) (time_is dt.time)
    ∙ ap (λ (d : ℤ). date_words d ++ 84 ∷ time_words (time_nanos dt.time)) day
    ∙ ap (λ (t : ℕ). date_words (int_div_euclid nanos (pos 86_400_000_000_000)) ++ 84 ∷ time_words t)
    time

-- the hours and minutes of an offset in seconds
abbrev minutes_by : ℤ → ℕ × ℕ
minutes_by seconds =
    let total = unsigned_abs seconds in
    let hours = total / 3600 in
    let minutes = total / 60 % 60 in
    if nat_lt (total % 60) 30 then (hours, minutes)
    else (if nat_lt minutes 59 then (hours, minutes + 1)
    else (if nat_lt hours 25 then (hours + 1, 0) else (25, 59)))

abbrev offset_by : ℤ → List ℕ
offset_by seconds =
    sign_byte seconds ∷ pad2 (minutes_by seconds).0 ++ 58 ∷ pad2 (minutes_by seconds).1

pub offset_same : (a b : Offset) → a.seconds ≡ b.seconds → offset_text a ≡ offset_text b
offset_same a b same = ap (λ (s : ℤ). offset_by s) same

-- what clocks of a zone show that are so far ahead of UTC
pub local_is : (zone : Option PosixRule) (offset : Offset) (moment : ℕ) (clock : List ℕ)
    → moment < 253_402_207_200_000
    → Some offset.seconds ≡ option_map (λ z. seconds_ahead z moment) zone
    → clock ≡ shown_words (moment_nanos moment +ℤ nanos_of_seconds offset.seconds)
    ++ offset_text offset → Some clock ≡ local_at zone moment
unfolding clock_words offset_at
local_is None offset moment clock below ahead shown = cc
local_is (Some zone) offset moment clock below ahead shown =
    let early : nat_lt moment 253_402_207_200_000 ≡ true = grind (arith, nat_tests) in
    let at = rule.offset_at zone (moment_nanos moment) in
    let seconds : offset.seconds ≡ at.seconds = cc in
    rw early (ap (λ (t : List ℕ). Some t) (shown
    ∙ ap (λ (s : ℤ). shown_words (moment_nanos moment +ℤ nanos_of_seconds s) ++ offset_text offset)
    seconds
    ∙ ap (λ (o : List ℕ). shown_words (moment_nanos moment +ℤ nanos_of_seconds at.seconds) ++ o)
    (offset_same offset at seconds)))
