-- A moment's text in UTC is read as the moment.
use Rattle.std.proofs.Common.{◌≡◌, ◌-ℤ◌, ℕ, ℤ, pos, ◌+◌, ◌-◌, ◌*◌, ◌/◌, ◌%◌, ◌^◌, ◌<◌, ◌==◌, true}
use Rattle.std.proofs.Common.{false, List, [], ◌∷◌, ◌++◌, Option, Some, None, Ok, refl, sym, subst}
use Rattle.std.proofs.Common.{arith, inr}
use Rattle.fare_texts.proofs.Years.{year_of}
use Rattle.fare_texts.specs.Moments.{IsCivilText, pad3}
use Rattle.jiff_core.proofs.SignedLemmas.{signed_arith}
use Rattle.jiff_core.specs.{Date.epoch_day, Timestamp.IsTimestampNanos, Timestamp.nanos_of_seconds}
use Rattle.jiff_core.specs.declared.civil.date.Date.{Date}
use Rattle.jiff_fmt.proofs.RoundTrip.{annotations-empty, date_spec-text, field-pad2, offset-zulu}
use Rattle.jiff_fmt.proofs.TemporalLemmas.{instant-ok}
use Rattle.jiff_fmt.specs.Reader.{nanoseconds, temporal_fraction, fraction_value}
use Rattle.jiff_fmt.specs.Temporal.{date_parts, fraction_or_zero, parse_timestamp, parts_nanos}
use Rattle.jiff_fmt.specs.Temporal.{temporal_datetime, time_spec, TimeParts}
use Rattle.jiff_fmt.specs.Text.{date_text, pad2, year_text}
use Rattle.std.proofs.lemmas.Bool.Decides.{nat_tests}
use Rattle.std.specs.Char.{is_ascii_digit}
use Rattle.tap_rows.specs.Moments.{HasUtcPunctuation, IsMoment, IsSecondText, IsUtc}
use Rattle.jiff_core.specs.declared.error.Syntax.TheVariants as Syntax
use Rattle.jiff_core.specs.declared.error.Bound.TheVariants as Bd

-- ---- the time of day
-- what a clock shows
abbrev shown : ℕ → ℕ → ℕ → ℕ → TimeParts
shown hour minute second subsec =
    record { hour = hour; minute = minute; second = second; subsec = subsec }

-- its text, up to and with a fraction and the `Z`
abbrev clock : ℕ → ℕ → ℕ → List ℕ → List ℕ
clock hour minute second fraction =
    pad2 hour ++ 58 ∷ (pad2 minute ++ 58 ∷ (pad2 second ++ fraction))

clock_read : (hour minute second : ℕ) (o : Option ℕ) (fraction : List ℕ) → hour < 24 → minute < 60
    → second < 60
    → temporal_fraction fraction ≡ Ok (o, 90 ∷ [])
    → time_spec (clock hour minute second fraction)
    ≡ Ok ((shown hour minute second (fraction_or_zero o), true), 90 ∷ [])
unfolding time_spec
clock_read hour minute second o fraction h m s read =
    let after_minute = 58 ∷ (pad2 second ++ fraction) in
    let after_hour = 58 ∷ (pad2 minute ++ after_minute) in
    let first = field-pad2 Syntax.Hour 0 23 Bd.Hour hour after_hour (omega arith) (omega arith)
    (omega arith) in
    let middle = field-pad2 Syntax.Minute 0 59 Bd.Minute minute after_minute (omega arith)
    (omega arith) (omega arith) in
    let last = field-pad2 Syntax.Second 0 60 Bd.LeapSecond second fraction (omega arith)
    (omega arith) (omega arith) in
    let no_leap : (second == 60) ≡ false = grind (arith, nat_tests) in
    rw (first, middle, last, no_leap, read)

-- ---- the fraction
no_fraction : temporal_fraction (90 ∷ []) ≡ Ok (None, 90 ∷ [])
unfolding temporal_fraction
no_fraction = refl

digit_is : (d : ℕ) → d < 10 → is_ascii_digit (48 + d) ≡ true
digit_is d small = grind (arith, nat_tests)

positions_value : (ms : ℕ) → ms < 1_000
    → (48 + ms / 100 - 48) * 10 ^ 8
    + ((48 + ms % 100 / 10 - 48) * 10 ^ 7 + ((48 + ms % 100 % 10 - 48) * 10 ^ 6 + 0))
    ≡ ms * 1_000_000
positions_value ms small = omega arith

three_positions : (ms : ℕ) → ms < 1_000
    → temporal_fraction (46 ∷ (pad3 ms ++ 90 ∷ [])) ≡ Ok (Some (ms * 1_000_000), 90 ∷ [])
unfolding temporal_fraction nanoseconds fraction_value
three_positions ms small =
    let a = digit_is (ms / 100) (omega arith) in
    let b = digit_is (ms % 100 / 10) (omega arith) in
    let c = digit_is (ms % 100 % 10) (omega arith) in
    rw (a, b, c, positions_value ms small)

-- ---- the instant
instant_read : (date : Date) (moment hour minute second : ℕ) (o : Option ℕ) (fraction : List ℕ)
    → epoch_day date ≡ pos (moment / 86_400_000) → moment < 4_102_444_800_000
    → hour < 24 → minute < 60 → second < 60 → temporal_fraction fraction ≡ Ok (o, 90 ∷ [])
    → (hour * 3_600 + minute * 60 + second) * 1_000_000_000 + fraction_or_zero o
    ≡ moment % 86_400_000 * 1_000_000
    → parse_timestamp (date_text date ++ 84 ∷ clock hour minute second fraction)
    ≡ Ok (pos (moment * 1_000_000))
unfolding temporal_datetime
instant_read date moment hour minute second o fraction day early h m s read value =
    let first = date_spec-text date (84 ∷ clock hour minute second fraction) in
    let time = clock_read hour minute second o fraction h m s read in
    let nanos : parts_nanos (date_parts date) (shown hour minute second (fraction_or_zero o)) -ℤ
    nanos_of_seconds (pos 0) ≡ pos (moment * 1_000_000)
    = omega (arith, signed_arith, day, value) in
    let range : IsTimestampNanos (pos (moment * 1_000_000)) =
    (omega (arith, signed_arith), omega (arith, signed_arith)) in
    rw (
      first,
      time,
      offset-zulu,
      annotations-empty,
      nanos,
      instant-ok (pos (moment * 1_000_000)) range,
    )

-- ---- the marks

-- a text by the parts of its date
abbrev dated : ℤ → ℕ → ℕ → List ℕ → List ℕ
dated year month day time = (year_text year ++ 45 ∷ [] ++ pad2 month ++ 45 ∷ [] ++ pad2 day) ++ time

-- without a fraction, and with one of three places
marks_short : (year month day hour minute second : ℕ)
    → HasUtcPunctuation (dated (pos year) month day (84 ∷ clock hour minute second (90 ∷ [])))
marks_short year month day hour minute second = (omega arith, refl, refl, refl, refl)

marks_long : (year month day hour minute second ms : ℕ)
    → HasUtcPunctuation
    (dated (pos year) month day (84 ∷ clock hour minute second (46 ∷ (pad3 ms ++ 90 ∷ []))))
marks_long year month day hour minute second ms = (omega arith, refl, refl, refl, refl)

-- ---- the two texts
pub civil_moment : (moment : ℕ) (text : List ℕ) → moment < 4_102_444_800_000
    → IsCivilText moment text → IsMoment text moment
civil_moment moment text early is =
    let (year, year_is) = year_of is.date (moment / 86_400_000) is.day in
    let ms = moment % 86_400_000 in
    let hour = ms / 3_600_000 in
    let minute = ms / 60_000 % 60 in
    let second = ms / 1_000 % 60 in
    let fraction = 46 ∷ (pad3 (ms % 1_000) ++ 90 ∷ []) in
    let read = three_positions (ms % 1_000) (omega arith) in
    let value : (hour * 3_600 + minute * 60 + second) * 1_000_000_000 + ms % 1_000 * 1_000_000
    ≡ ms * 1_000_000 = omega arith in
    let instant = instant_read is.date moment hour minute second (Some (ms % 1_000 * 1_000_000))
    fraction is.day early (omega arith) (omega arith) (omega arith) read value in
    let marks : HasUtcPunctuation
    (dated is.date.year is.date.month is.date.day (84 ∷ clock hour minute second fraction)) =
    subst (λ (y : ℤ). HasUtcPunctuation
    (dated y is.date.month is.date.day (84 ∷ clock hour minute second fraction))) (sym year_is)
    (marks_long year is.date.month is.date.day hour minute second (ms % 1_000)) in (
      inr (subst (λ (t : List ℕ). IsUtc t moment) (sym is.shown)
          (record { punctuation = marks; instant = instant })),
      early,
    )

pub second_moment : (moment : ℕ) (text : List ℕ) → moment < 4_102_444_800_000
    → IsSecondText moment text → IsMoment text moment
second_moment moment text early is =
    let (year, year_is) = year_of is.date (moment / 86_400_000) is.day in
    let ms = moment % 86_400_000 in
    let hour = ms / 3_600_000 in
    let minute = ms / 60_000 % 60 in
    let second = ms / 1_000 % 60 in
    let whole = is.whole in
    let value : (hour * 3_600 + minute * 60 + second) * 1_000_000_000 + 0 ≡ ms * 1_000_000 =
    omega arith in
    let instant = instant_read is.date moment hour minute second None (90 ∷ []) is.day early
    (omega arith) (omega arith) (omega arith) no_fraction value in
    let marks : HasUtcPunctuation
    (dated is.date.year is.date.month is.date.day (84 ∷ clock hour minute second (90 ∷ []))) =
    subst (λ (y : ℤ). HasUtcPunctuation
    (dated y is.date.month is.date.day (84 ∷ clock hour minute second (90 ∷ [])))) (sym year_is)
    (marks_short year is.date.month is.date.day hour minute second) in (
      inr (subst (λ (t : List ℕ). IsUtc t moment) (sym is.shown)
          (record { punctuation = marks; instant = instant })),
      early,
    )
