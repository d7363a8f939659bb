-- Midnight: what private functions alone cite.
use Rattle.std.specs.Prelude.{◌≡◌, ℤ}
use Rattle.jiff.specs.Types.{Date, DateTime, TimeZone}
use Rattle.jiff.specs.Words.{picked_instant, time_nanos}

-- The date begins at the instant by the clocks of the zone. A midnight that is skipped takes the
-- offset before the gap, and of one that comes twice the earlier counts.
pub record IsMidnight (zone : TimeZone) (date : Date) (instant : ℤ) : Type 0 where
  pub midnight : DateTime
  pub is_date : midnight.date ≡ date
  pub time : time_nanos midnight.time ≡ 0
  pub at : instant ≡ picked_instant zone midnight
