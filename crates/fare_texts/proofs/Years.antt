-- The year of a date that is no day before 1970-01-01.
use Rattle.std.proofs.Common.{◌≡◌, ℕ, ℤ, pos, negsuc, ◌<ℤ◌, ◌≤ℤ◌, refl, arith}
use Rattle.jiff_core.proofs.CalendarLemmas.{day_count-epoch, day_count-lt_year}
use Rattle.jiff_core.proofs.{CalendarLemmas.days_from_civil-day_count, DateLemmas.civil}
use Rattle.jiff_core.proofs.SignedLemmas.{signed_arith}
use Rattle.jiff_core.specs.{Date.epoch_day, declared.civil.date.Date.Date}
use Rattle.std.proofs.lemmas.Int.{by_lt_z}

-- a date from 1970 on has a year that is not negative
pub before_epoch : (date : Date) → date.year <ℤ pos 1970 → epoch_day date <ℤ pos 0
before_epoch date early =
    omega (
      arith,
      signed_arith,
      days_from_civil-day_count,
      day_count-epoch,
      day_count-lt_year date.year date.month date.day (pos 1970) 1 1 (civil date) (omega arith)
          early,
    )

-- the date of a day from 1970 on has a year that is a natural number
pub year_of : (date : Date) (day : ℕ) → epoch_day date ≡ pos day
    → (year : ℕ) × (date.year ≡ pos year)
year_of date day is =
    positive date.year
    (by_lt_z date.year (pos 1970)
    (λ early. absurd (omega (arith, signed_arith, before_epoch date early, is))) (λ late. late))
  where
    positive : (year : ℤ) → pos 1970 ≤ℤ year → (n : ℕ) × (year ≡ pos n)
    positive (pos n) late = (n, refl)
    positive (negsuc n) late = absurd (omega (arith, signed_arith))
