-- What contracts see of a clock.
use Rattle.std.specs.Prelude.{Option}
use Rattle.jiff_tz.specs.declared.posix.TimeZone.{TimeZone as PosixRule}

-- the rule of the zone by whose midnights windows end, if there is one
pub record ClockView : Type 0 where
  pub rule : Option PosixRule
