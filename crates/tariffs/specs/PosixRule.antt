-- Zones that a POSIX rule gives.
use Rattle.std.specs.Prelude.{Option, Some, None}
use Rattle.jiff.specs.Types.{TimeZone, UTC, Unknown, Fixed, Posix, Tzif}
use Rattle.jiff_tz.specs.declared.posix.TimeZone.{TimeZone as PosixRule}

-- the rule of a zone that a rule gives
abbrev pub posix_rule : TimeZone → Option PosixRule
posix_rule UTC = None
posix_rule Unknown = None
posix_rule (Fixed offset) = None
posix_rule (Posix zone) = Some zone
posix_rule (Tzif zone) = None
