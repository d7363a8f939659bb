-- The window end as a function, and that it is later than the start.
use Rattle.std.proofs.Common.{◌≡◌, ◌∙◌, ℕ, zero, suc, ℤ, pos, ◌+◌, ◌-◌, ◌*◌, ◌<◌, ◌≤◌, ◌+ℤ◌, ◌-ℤ◌}
use Rattle.std.proofs.Common.{◌*ℤ◌, ◌<ℤ◌, ◌≤ℤ◌, neg_ℤ, negsuc, ◌⊎◌, Bool, true, false, Option}
use Rattle.std.proofs.Common.{IsSome, Some, None, refl, sym, ap, arith, inl, inr, w64, FitsSigned}
use Rattle.jiff.proofs.Family.{civil_nanos-parts, time_nanos_bound, epoch_day-civil_nanos}
use Rattle.jiff.proofs.SpanFacts.{signed_arith}
use Rattle.jiff.specs.Types.{Date, DateTime, TimeZone, Fixed, Offset, Posix, Tzif, UTC, Unknown}
use Rattle.jiff.specs.Words.{epoch_day, civil_nanos, time_nanos, month_length, nanos_of_seconds}
use Rattle.jiff.specs.Words.{offset_at, ambiguous_at, compatible_offset, picked_instant}
use Rattle.jiff.specs.Words.{IsTimestampNanos, IsYmd}
use Rattle.jiff_core.proofs.CalendarLemmas.{day_count-day_of_year, day_count-later_year}
use Rattle.jiff_core.proofs.CalendarLemmas.{day_count-lt_month, day_count-lt_year}
use Rattle.jiff_core.proofs.CalendarLemmas.{days_from_civil-day_count, days_in_year_bounds}
use Rattle.jiff_core.proofs.CalendarLemmas.{days_in_month_bounds, weekday_number-add}
use Rattle.jiff_core.proofs.CalendarLemmas.{weekday_number_bound}
use Rattle.jiff_core.proofs.DateLemmas.{civil, days_from_civil-day, days_from_civil-next_month}
use Rattle.jiff_core.proofs.{DateLemmas.days_from_civil-next_year, MarchLemmas.day_count-early}
use Rattle.jiff_core.specs.Calendar.{days_from_civil, IsCivilDate, weekday_number, day_count}
use Rattle.jiff_tz.proofs.YearLemmas.{year_of_day-date}
use Rattle.jiff_tz.specs.{PosixRule.ambiguous_at_by, Year.year_of_day}
use Rattle.jiff_tz.specs.declared.posix.{Dst.Dst, TimeZone.TimeZone as PosixRule}
use Rattle.std.proofs.lemmas.{Bool.cases_lt, Bool.false≢true, Int.int_max_is, Int.ints}
use Rattle.std.specs.Int.{int_div_euclid, int_max}
use Rattle.std.specs.Prelude.{int_div, int_lt, unsigned_abs}
use Rattle.tariffs.specs.{ClockView.ClockView, Fares.Fares, Fares.meaning_at, PosixRule.posix_rule}
use Rattle.tariffs.specs.Until.{IsCivilWindowEnd, IsDayAt, IsEndDate, IsPlainEndOf}
use Rattle.tariffs.specs.Until.{IsPlainWindowEnd, IsWindowEnd, IsWindowEndBy, civil_instant}
use Rattle.tariffs.specs.Until.{civil_offset, civil_window_end, day_at, day_start_nanos, end_day}
use Rattle.tariffs.specs.Until.{end_millis, next_month, midnight_by, midnight_nanos, moment_nanos}
use Rattle.tariffs.specs.Until.{offsets_by, plain_end_of, plain_window_end, start_instant}
use Rattle.tariffs.specs.Until.{start_nanos, until, utc_window_end, window_end_by, window_end_in}
use Rattle.tariffs.specs.declared.window_span.WindowLength.{WindowLength}
use Rattle.tariffs.specs.declared.window_span.WindowLength.TheVariants.{Days, CalendarDay}
use Rattle.tariffs.specs.declared.window_span.WindowLength.TheVariants.{CalendarMonth, CalendarWeek}
use Rattle.tariffs.specs.{declared.window_span.WindowSpan.WindowSpan, inside.Midnight.IsMidnight}
use Rattle.jiff_tz.specs.PosixRule as rule

-- ---- the midnight that a zone picks, and the date that its clocks show
offsets-date : (std : Offset) (dst : Option Dst) (dt : DateTime)
    → ambiguous_at_by std dst dt
    ≡ offsets_by std dst (year_of_day (epoch_day dt.date)) (civil_nanos dt)
offsets-date std None dt = refl
offsets-date std (Some dst) dt =
    ap (λ year. offsets_by std (Some dst) year (civil_nanos dt)) (sym (year_of_day-date dt.date))

-- the instant that the zone picks for what a civil clock shows
picked-at : (zone : PosixRule) (dt : DateTime) (at : ℤ) → civil_nanos dt ≡ at
    → picked_instant (Posix zone) dt ≡ civil_instant zone (epoch_day dt.date) at
unfolding ambiguous_at
picked-at zone dt at civil =
    ap (λ offsets. civil_nanos dt -ℤ nanos_of_seconds (compatible_offset offsets).seconds)
    (offsets-date zone.std_offset zone.dst dt)
    ∙ ap (λ at. at -ℤ nanos_of_seconds
    (compatible_offset (offsets_by zone.std_offset zone.dst (year_of_day (epoch_day dt.date))
    at)).seconds) civil

picked-utc : (dt : DateTime) → picked_instant UTC dt ≡ civil_nanos dt
unfolding ambiguous_at
picked-utc dt = omega (arith, signed_arith)

-- what a civil clock shows at a midnight, and at the start of a day
civil-midnight : (dt : DateTime) → time_nanos dt.time ≡ 0
    → civil_nanos dt ≡ midnight_nanos (epoch_day dt.date)
civil-midnight dt time = omega (arith, signed_arith, civil_nanos-parts dt)

civil-start : (dt : DateTime) (day_starts : ℕ) → time_nanos dt.time ≡ day_start_nanos day_starts
    → civil_nanos dt ≡ start_nanos day_starts (epoch_day dt.date)
civil-start dt day_starts time = omega (arith, signed_arith, civil_nanos-parts dt)

-- the day that clocks of the zone show
shown-day : (zone : PosixRule) (day_starts start : ℕ) (day : Date)
    → IsDayAt (Posix zone) day_starts start day
    → epoch_day day ≡ day_at zone day_starts (moment_nanos start)
unfolding offset_at
shown-day zone day_starts start day is =
    ap epoch_day is.date ∙ epoch_day-civil_nanos is.shown
    ∙ ap (λ n. int_div_euclid n (pos 86_400_000_000_000)) is.shows

shown-day-utc : (day_starts start : ℕ) (day : Date) → IsDayAt UTC day_starts start day
    → epoch_day day ≡ int_div_euclid (moment_nanos start -ℤ pos (day_start_nanos day_starts))
    (pos 86_400_000_000_000)
unfolding offset_at
shown-day-utc day_starts start day is =
    let shows = is.shows in
    let at : civil_nanos is.shown ≡ moment_nanos start -ℤ pos (day_start_nanos day_starts) =
    omega (arith, signed_arith, shows) in
    ap epoch_day is.date ∙ epoch_day-civil_nanos is.shown
    ∙ ap (λ n. int_div_euclid n (pos 86_400_000_000_000)) at

whole_millis : (window_end : ℕ) (instant : ℤ) → pos (window_end * 1_000_000) ≡ instant
    → window_end ≡ unsigned_abs (int_div instant (pos 1_000_000))
whole_millis window_end instant same = omega (arith, signed_arith)

-- ---- the end date as a day number
as_number : (z : ℤ) → pos 0 ≤ℤ z → (n : ℕ) × (z ≡ pos n)
as_number (pos n) low = (n, refl)
as_number (negsuc n) low = absurd (omega (arith, signed_arith))

-- the next Monday
week-is : (day later : ℤ) → weekday_number later ≡ 0 → day <ℤ later → later ≤ℤ (day +ℤ pos 7)
    → later ≡ day +ℤ pos (7 - weekday_number day)
week-is day later monday after near =
    let ahead = as_number (later -ℤ day) (omega (arith, signed_arith)) in
    let sum : later ≡ day +ℤ pos ahead.0 = omega (arith, signed_arith, ahead.1) in
    let week = weekday_number-add day later ahead.0 sum in
    let small = weekday_number_bound day in
    let some : 1 ≤ ahead.0 = omega (arith, signed_arith, ahead.1) in
    let few : ahead.0 ≤ 7 = omega (arith, signed_arith, ahead.1) in
    let all : ahead.0 ≡ 7 - weekday_number day = omega arith in
    sum ∙ ap (λ n. day +ℤ pos n) all

-- a test of the order, and what it says
lt_decides : (a b : ℤ)
    → ((int_lt a b ≡ true) × (a <ℤ b)) ⊎ ((int_lt a b ≡ false) × (b ≤ℤ a))
lt_decides a b = by (int_lt a b) refl
  where
    by : (t : Bool) → int_lt a b ≡ t
        → ((int_lt a b ≡ true) × (a <ℤ b)) ⊎ ((int_lt a b ≡ false) × (b ≤ℤ a))
    by true e = inl (e, omega (arith, ints))
    by false e = inr (e, omega (arith, ints))

-- the months that have begun are passed by, up to the one that has not
next_month-found : (day year : ℤ) (month more found : ℕ) → month ≤ found → found < month + more
    → ((k : ℕ) → month ≤ k → k < found → days_from_civil year k 1 ≤ℤ day)
    → day <ℤ days_from_civil year found 1
    → next_month day year month more ≡ days_from_civil year found 1
next_month-found day year month zero found above below started later = absurd (omega arith)
next_month-found day year month (suc more) found above below started later =
    elim (lt_decides day (days_from_civil year month 1)) [
      | inl before ↦
          let same : month ≡ found = elim (cases_lt month found) [
            | inl less ↦
                let here = started month (omega arith) less in
                absurd (omega (arith, ints, before.1))
            | inr not_less ↦ omega arith
          ] in
          rw before.0 (ap (λ m. days_from_civil year m 1) same)
      | inr after ↦
          let other : month < found = elim (cases_lt month found) [
            | inl less ↦ less
            | inr not_less ↦
                let same : month ≡ found = omega arith in
                let at = ap (λ m. days_from_civil year m 1) same in
                absurd (omega (arith, ints, after.1))
          ] in
          rw after.0 (next_month-found day year (suc month) more found (omega arith) (omega arith)
          (λ k low high. started k (omega arith) high) later)
    ]

-- all months that are left have begun
next_month-none : (day year : ℤ) (month more : ℕ)
    → ((k : ℕ) → month ≤ k → k < month + more → days_from_civil year k 1 ≤ℤ day)
    → next_month day year month more ≡ days_from_civil (year +ℤ pos 1) 1 1
next_month-none day year month zero started = refl
next_month-none day year month (suc more) started =
    elim (lt_decides day (days_from_civil year month 1)) [
      | inl before ↦
          let here = started month (omega arith) (omega arith) in
          absurd (omega (arith, ints, before.1))
      | inr after ↦ rw after.0 (next_month-none day year (suc month) more (λ k low high.
          started k (omega arith) (omega arith)))
    ]

-- each month of the year up to the date's has begun
started_months : (date : Date) (k : ℕ) → 1 ≤ k → k ≤ date.month
    → days_from_civil date.year k 1 ≤ℤ epoch_day date
started_months date k low high = elim (cases_lt k date.month) [
  | inl less ↦
      let long = days_in_month_bounds date.year k in
      let first : IsCivilDate date.year k 1 =
      (date.year_in, (low, omega arith), (omega arith, omega arith)) in
      let before = day_count-lt_month date.year k 1 date.month date.day first (omega arith) less in
      omega (arith, signed_arith, days_from_civil-day_count)
  | inr not_less ↦
      let same : k ≡ date.month = omega arith in
      let at = ap (λ m. days_from_civil date.year m 1) same in
      let days = days_from_civil-day date.year date.month 1 date.day (omega arith) (omega arith) in
      omega (arith, signed_arith)
]

-- the last of the month is not before the date
month_after : (date : Date) → epoch_day date
    <ℤ (days_from_civil date.year date.month (month_length date) +ℤ pos 1)
month_after date =
    let days = days_from_civil-day date.year date.month date.day (month_length date) (omega arith)
    (omega (arith, days_in_month_bounds date.year date.month)) in
    omega (arith, signed_arith)

-- the next month
month-is : (date : Date) (later : ℤ)
    → later ≡ days_from_civil date.year date.month (month_length date) +ℤ pos 1
    → later ≡ next_month (epoch_day date) (year_of_day (epoch_day date)) 2 11
month-is date later is =
    let year : year_of_day (epoch_day date) ≡ date.year = year_of_day-date date in
    elim (cases_lt date.month 12) [
      | inl less ↦
          let next = days_from_civil-next_month date.year date.month (month_length date)
          (omega arith) refl in
          let after : epoch_day date <ℤ days_from_civil date.year (date.month + 1) 1 =
          omega (arith, signed_arith, month_after date) in
          rw year (is ∙ sym next ∙ sym (next_month-found (epoch_day date) date.year 2 11
          (date.month + 1) (omega arith) (omega arith)
          (λ k low high. started_months date k (omega arith) (omega arith)) after))
      | inr not_less ↦
          let december : date.month ≡ 12 = omega arith in
          let next = days_from_civil-next_year date.year (date.year +ℤ pos 1)
          (omega (arith, signed_arith, date.year_in)) refl in
          let at : days_from_civil date.year date.month (month_length date)
          ≡ days_from_civil date.year 12 31 = rw december refl in
          rw year (is ∙ ap (λ d. d +ℤ pos 1) at ∙ sym next
          ∙ sym (next_month-none (epoch_day date) date.year 2 11
          (λ k low high. started_months date k (omega arith) (omega arith))))
    ]

-- the end date's day number
end_day-is : (length : WindowLength) (date later : Date) → IsEndDate length date later
    → epoch_day later ≡ end_day length (epoch_day date)
end_day-is (Days count) date later is = is
end_day-is CalendarDay date later is = is
end_day-is CalendarWeek date later is =
    week-is (epoch_day date) (epoch_day later) is.0 is.1 is.2
end_day-is CalendarMonth date later is = month-is date (epoch_day later) is

-- ---- the window end as a function
-- the end is what the function gives of the instant of the midnight
end_millis-is : (start window_end : ℕ) (picked instant : ℤ) → picked ≡ instant
    → moment_nanos window_end ≡ int_max (moment_nanos (start + 1)) picked
    → window_end ≡ end_millis start instant
end_millis-is start window_end picked instant same is =
    whole_millis window_end (int_max (moment_nanos (start + 1)) instant)
    (is ∙ ap (λ at. int_max (moment_nanos (start + 1)) at) same)

-- the civil window end is the one that the function gives
pub civil_window_end-is : (zone : PosixRule) (span : WindowSpan) (start window_end : ℕ)
    → IsCivilWindowEnd (Posix zone) span start window_end
    → window_end ≡ civil_window_end zone span start
unfolding civil_window_end
civil_window_end-is zone span start window_end is =
    let starts = span.day_starts in
    let day : epoch_day is.end.date ≡ end_day span.length (day_at zone starts (moment_nanos start)) =
    end_day-is span.length is.day is.end.date is.date
    ∙ ap (λ d. end_day span.length d) (shown-day zone starts start is.day is.is_day) in
    end_millis-is start window_end (picked_instant (Posix zone) is.end)
    (start_instant zone starts (end_day span.length (day_at zone starts (moment_nanos start))))
    (picked-at zone is.end (start_nanos starts (epoch_day is.end.date))
    (civil-start is.end starts is.time)
    ∙ ap (λ d. start_instant zone starts d) day) is.at

utc_window_end-is : (span : WindowSpan) (start window_end : ℕ)
    → IsCivilWindowEnd UTC span start window_end → window_end ≡ utc_window_end span start
unfolding utc_window_end
utc_window_end-is span start window_end is =
    let starts = span.day_starts in
    let shown = int_div_euclid (moment_nanos start -ℤ pos (day_start_nanos starts))
    (pos 86_400_000_000_000) in
    let day : epoch_day is.end.date ≡ end_day span.length shown =
    end_day-is span.length is.day is.end.date is.date
    ∙ ap (λ d. end_day span.length d) (shown-day-utc starts start is.day is.is_day) in
    end_millis-is start window_end (picked_instant UTC is.end)
    (start_nanos starts (end_day span.length shown))
    (picked-utc is.end ∙ civil-start is.end starts is.time ∙ ap (λ d. start_nanos starts d) day)
    is.at

plain_end-is : (length : WindowLength) (span : WindowSpan) (start window_end : ℕ)
    → IsPlainEndOf length span start window_end → window_end ≡ plain_end_of length span start
plain_end-is (Days count) span start window_end is = is
plain_end-is CalendarDay span start window_end is = utc_window_end-is span start window_end is
plain_end-is CalendarWeek span start window_end is = utc_window_end-is span start window_end is
plain_end-is CalendarMonth span start window_end is = utc_window_end-is span start window_end is

pub plain_window_end-is : (span : WindowSpan) (start window_end : ℕ)
    → IsPlainWindowEnd span start window_end → window_end ≡ plain_window_end span start
plain_window_end-is span start window_end is = plain_end-is span.length span start window_end is

window_end_by-is : (zone : Option PosixRule) (span : WindowSpan) (start window_end : ℕ)
    → IsWindowEndBy zone span start window_end → window_end ≡ window_end_by zone span start
window_end_by-is None span start window_end is = plain_window_end-is span start window_end is
window_end_by-is (Some zone) span start window_end is =
    civil_window_end-is zone span start window_end is

pub until-is : (clock : ClockView) (span : WindowSpan) (start window_end : ℕ)
    → IsWindowEnd clock span start window_end → window_end ≡ window_end_in clock span start
until-is clock span start window_end is = window_end_by-is clock.rule span start window_end is

-- ---- a window ends after it starts
end_millis-later : (start : ℕ) (instant : ℤ) → start < end_millis start instant
end_millis-later start instant =
    omega (arith, ints, int_max_is (moment_nanos (start + 1)) instant)

civil-later : (zone : PosixRule) (span : WindowSpan) (start : ℕ)
    → start < civil_window_end zone span start
unfolding civil_window_end
civil-later zone span start = end_millis-later start _

utc-later : (span : WindowSpan) (start : ℕ) → start < utc_window_end span start
unfolding utc_window_end
utc-later span start = end_millis-later start _

plain-later : (length : WindowLength) (span : WindowSpan) (start : ℕ)
    → start < plain_end_of length span start
plain-later (Days count) span start = omega arith
plain-later CalendarDay span start = utc-later span start
plain-later CalendarWeek span start = utc-later span start
plain-later CalendarMonth span start = utc-later span start

window_end_by-later : (zone : Option PosixRule) (span : WindowSpan) (start : ℕ)
    → start < window_end_by zone span start
window_end_by-later None span start = plain-later span.length span start
window_end_by-later (Some zone) span start = civil-later zone span start

pub until-later : (fares : Fares) (start : ℕ) → start < until fares start
until-later fares start =
    window_end_by-later fares.zone.rule (meaning_at fares start).window start

-- ---- the day of a moment is near it
pub shown_low : (day_starts start : ℕ) (offset : Offset) (instant : ℤ) (dt : DateTime)
    → day_starts < 1_440 → instant ≡ moment_nanos start -ℤ pos (day_start_nanos day_starts)
    → civil_nanos dt ≡ instant +ℤ nanos_of_seconds offset.seconds
    → neg_ℤ (pos 10) ≤ℤ epoch_day dt.date
shown_low day_starts start offset instant dt small at shows =
    omega (arith, signed_arith, civil_nanos-parts dt, time_nanos_bound dt.time, offset.in_range)

pub shown_high : (day_starts start : ℕ) (offset : Offset) (instant : ℤ) (dt : DateTime)
    → start < 4_102_444_800_000
    → instant ≡ moment_nanos start -ℤ pos (day_start_nanos day_starts)
    → civil_nanos dt ≡ instant +ℤ nanos_of_seconds offset.seconds → epoch_day dt.date ≤ℤ pos 50_000
shown_high day_starts start offset instant dt below at shows =
    omega (arith, signed_arith, civil_nanos-parts dt, time_nanos_bound dt.time, offset.in_range)

-- ---- the start of a day is a whole number of milliseconds, near enough to be an instant
pub record IsWholeInstant (instant millis : ℤ) : Type 0 where
  pub whole : instant ≡ millis *ℤ pos 1_000_000
  pub low : neg_ℤ (pos 5_000_000_000_000) ≤ℤ millis
  pub high : millis ≤ℤ pos 5_000_000_000_000

abbrev pub start_millis : TimeZone → ℕ → DateTime → ℤ
start_millis zone day_starts dt =
    epoch_day dt.date *ℤ pos 86_400_000 +ℤ pos (day_starts * 60_000)
    -ℤ (compatible_offset (ambiguous_at zone dt)).seconds *ℤ pos 1_000

whole_start : (zone : TimeZone) (day_starts : ℕ) (dt : DateTime)
    → neg_ℤ (pos 10) ≤ℤ epoch_day dt.date → epoch_day dt.date ≤ℤ pos 50_100
    → time_nanos dt.time ≡ day_start_nanos day_starts
    → IsWholeInstant (picked_instant zone dt) (start_millis zone day_starts dt)
whole_start zone day_starts dt low high time =
    let offset = compatible_offset (ambiguous_at zone dt) in
    let short = time_nanos_bound dt.time in
    record {
      whole = omega (arith, signed_arith, civil_nanos-parts dt);
      low = omega (arith, signed_arith, offset.in_range);
      high = omega (arith, signed_arith, offset.in_range);
    }

-- a date of these years is near
pub year_near : (date : Date) → pos 1970 ≤ℤ date.year → date.year ≤ℤ pos 2099
    → (neg_ℤ (pos 10) ≤ℤ epoch_day date) × (epoch_day date ≤ℤ pos 50_100)
year_near date low high =
    let first : day_count (pos 1969) 1 1 ≡ 4_371_588 =
    day_count-early (pos 1969) 11968 1 1 refl (omega arith) (omega arith) (omega arith) in
    let last : day_count (pos 2100) 1 1 ≡ 4_419_435 =
    day_count-early (pos 2100) 12099 1 1 refl (omega arith) (omega arith) (omega arith) in
    let after = day_count-later_year (pos 1969) date.year (omega (arith, signed_arith))
    (omega (arith, signed_arith)) in
    let long = days_in_year_bounds (pos 1969) in
    let day = day_count-day_of_year date.year date.month date.day date.day_in.0 in
    let below = day_count-lt_year date.year date.month date.day (pos 2100) 1 1 (civil date)
    (omega arith) (omega (arith, signed_arith)) in
    let count = days_from_civil-day_count date.year date.month date.day in (
      omega (arith, signed_arith),
      omega (arith, signed_arith),
    )

pub whole_of_year : (zone : TimeZone) (date : Date) (midnight : DateTime)
    → pos 1970 ≤ℤ date.year → date.year ≤ℤ pos 2099
    → (midnight.date ≡ date) × (time_nanos midnight.time ≡ 0)
    → IsWholeInstant (picked_instant zone midnight) (start_millis zone 0 midnight)
whole_of_year zone date midnight low high is_midnight =
    let near = year_near date low high in
    let day : epoch_day midnight.date ≡ epoch_day date = ap epoch_day is_midnight.0 in
    whole_start zone 0 midnight (rw day near.0) (rw day near.1) is_midnight.1

-- the midnight of a date is that of its day
pub midnight-is : (zone : TimeZone) (date : Date) (instant : ℤ) → IsSome (posix_rule zone)
    → IsMidnight zone date instant → instant ≡ midnight_by (posix_rule zone) (epoch_day date)
midnight-is UTC date instant rule is = absurd (false≢true rule)
midnight-is Unknown date instant rule is = absurd (false≢true rule)
midnight-is (Fixed offset) date instant rule is = absurd (false≢true rule)
midnight-is (Posix zone) date instant rule is =
    is.at
    ∙ picked-at zone is.midnight (midnight_nanos (epoch_day is.midnight.date))
    (civil-midnight is.midnight is.time)
    ∙ ap (λ (d : Date). midnight_by (Some zone) (epoch_day d)) is.is_date
midnight-is (Tzif zone) date instant rule is = absurd (false≢true rule)

pub midnight-utc : (date : Date) (instant : ℤ) → IsMidnight UTC date instant
    → instant ≡ midnight_nanos (epoch_day date)
midnight-utc date instant is =
    is.at ∙ picked-utc is.midnight ∙ civil-midnight is.midnight is.time
    ∙ ap (λ (d : Date). midnight_nanos (epoch_day d)) is.is_date

-- the same of the start of an end date
pub whole_end : (zone : TimeZone) (day_starts : ℕ) (end : DateTime) (day later : Date)
    → neg_ℤ (pos 10) ≤ℤ epoch_day day → epoch_day day ≤ℤ pos 50_000
    → epoch_day day <ℤ epoch_day later → epoch_day later ≤ℤ (epoch_day day +ℤ pos 31)
    → end.date ≡ later → time_nanos end.time ≡ day_start_nanos day_starts
    → IsWholeInstant (picked_instant zone end) (start_millis zone day_starts end)
whole_end zone day_starts end day later low high after near date time =
    let same : epoch_day end.date ≡ epoch_day later = ap epoch_day date in
    whole_start zone day_starts end (omega (arith, signed_arith)) (omega (arith, signed_arith))
    time

-- so it is an instant, and its milliseconds are that number
pub is_instant : (instant millis : ℤ) → IsWholeInstant instant millis → IsTimestampNanos instant
is_instant instant millis is = (
  omega (arith, signed_arith, is.whole, is.low),
  omega (arith, signed_arith, is.whole, is.high),
)

pub in_millis : (instant millis shown : ℤ) → IsWholeInstant instant millis
    → shown ≡ int_div instant (pos 1_000_000) → shown ≡ millis
in_millis instant millis shown whole is = omega (arith, ints, whole.whole)

pub fits_word : (instant millis shown : ℤ) → IsWholeInstant instant millis → shown ≡ millis
    → FitsSigned w64 shown
fits_word instant millis shown whole same = omega (arith, signed_arith, whole.low, whole.high)

-- the later of both in milliseconds is the later of both in nanoseconds
pub later_nanos : (start window_end : ℕ) (millis shown instant : ℤ) → shown ≡ millis
    → instant ≡ millis *ℤ pos 1_000_000 → pos window_end ≡ int_max (pos (start + 1)) shown
    → moment_nanos window_end ≡ int_max (moment_nanos (start + 1)) instant
later_nanos start window_end millis shown instant same whole is =
    let small = int_max_is (pos (start + 1)) shown in
    let large = int_max_is (moment_nanos (start + 1)) instant in
    omega (arith, ints)

pub after_start : (start window_end : ℕ) (shown : ℤ)
    → pos window_end ≡ int_max (pos (start + 1)) shown → start < window_end
after_start start window_end shown is =
    let later = int_max_is (pos (start + 1)) shown in omega (arith, ints)

-- ---- end dates
-- the last of a month is on the date or up to 30 days after it
pub record IsMonthEnd (date : Date) (last : ℤ) : Type 0 where
  pub not_before : epoch_day date ≤ℤ last
  pub near : last ≤ℤ (epoch_day date +ℤ pos 30)

pub month_end : (date last : Date)
    → IsYmd date.year (pos date.month) (pos (month_length date)) last
    → IsMonthEnd date (epoch_day last)
month_end date last is =
    let month : last.month ≡ date.month = cc in
    let day : last.day ≡ month_length date = cc in
    let same : epoch_day last ≡ days_from_civil date.year date.month (month_length date) =
    rw (is.0, month, day) refl in
    let long = days_in_month_bounds date.year date.month in
    let days = days_from_civil-day date.year date.month date.day (month_length date) (omega arith)
    (omega arith) in
    record {
      not_before = omega (arith, signed_arith, same);
      near = omega (arith, signed_arith, same);
    }

pub week_end : (day later offset : ℤ) (weekday : ℕ) → weekday ≡ weekday_number day
    → offset ≡ pos weekday → later ≡ day +ℤ (pos 7 -ℤ offset) → weekday_number later ≡ 0
week_end day later offset weekday same shown sum =
    let small = weekday_number_bound day in
    let ahead : later ≡ day +ℤ pos (7 - weekday) = omega (arith, signed_arith) in
    let week = weekday_number-add day later (7 - weekday) ahead in
    omega arith

-- ---- long windows
-- offsets of less than 26 hours move the start of a day by less than three days
long_end : (day_starts start count : ℕ) (shown later : Offset) (day instant : ℤ) → 4 ≤ count
    → day ≡ int_div_euclid ((moment_nanos start -ℤ pos (day_start_nanos day_starts))
    +ℤ nanos_of_seconds shown.seconds) (pos 86_400_000_000_000)
    → instant ≡ ((day +ℤ pos count) *ℤ pos 86_400_000_000_000
    +ℤ pos (day_start_nanos day_starts)) -ℤ nanos_of_seconds later.seconds
    → moment_nanos (end_millis start instant) ≡ instant
long_end day_starts start count shown later day instant long is at =
    let below : moment_nanos (start + 1) ≤ℤ instant =
    omega (arith, signed_arith, shown.in_range, later.in_range, is, at) in
    let most = int_max_is (moment_nanos (start + 1)) instant in
    let same : int_max (moment_nanos (start + 1)) instant ≡ instant = omega (arith, ints) in
    let millis = as_number ((day +ℤ pos count) *ℤ pos 86_400_000 +ℤ pos (day_starts * 60_000)
    -ℤ later.seconds *ℤ pos 1_000)
    (omega (arith, signed_arith, below, at)) in
    let whole : instant ≡ pos (millis.0 * 1_000_000) =
    omega (arith, signed_arith, at, millis.1) in
    let end : end_millis start instant ≡ millis.0 =
    ap (λ z. unsigned_abs (int_div z (pos 1_000_000))) (same ∙ whole)
    ∙ sym (whole_millis millis.0 (pos (millis.0 * 1_000_000)) refl) in
    ap moment_nanos end ∙ sym whole

pub long-is : (zone : PosixRule) (span : WindowSpan) (count start : ℕ) → span.length ≡ Days count
    → 4 ≤ count
    → moment_nanos (civil_window_end zone span start)
    ≡ start_instant zone span.day_starts
    (day_at zone span.day_starts (moment_nanos start) +ℤ pos count)
unfolding civil_window_end
long-is zone span count start days long =
    let starts = span.day_starts in
    let day = day_at zone starts (moment_nanos start) in
    let later = day +ℤ pos count in
    let instant = start_instant zone starts later in
    ap (λ (length : WindowLength).
    moment_nanos (end_millis start (start_instant zone starts (end_day length day)))) days
    ∙ long_end starts start count (rule.offset_at zone (moment_nanos start))
    (civil_offset zone later (start_nanos starts later)) day instant long refl refl
