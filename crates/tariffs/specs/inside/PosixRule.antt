-- PosixRule: what private functions alone cite.
use Rattle.jiff.specs.{ZoneView.plain_zone, declared.tz.timezone.TimeZone.TimeZone as Zone}
use Rattle.jiff_tz.specs.declared.posix.TimeZone.{TimeZone as PosixRule}
use Rattle.std.specs.Option.{option_and_then}
use Rattle.std.specs.Prelude.{IsSome, Option, Some, None}
use Rattle.tariffs.specs.PosixRule.{posix_rule}

-- the rule of a zone, if there is one
abbrev pub rule_of : Option Zone → Option PosixRule
rule_of zone = option_and_then (λ z. posix_rule (plain_zone z)) zone

-- a rule gives the zone, if there is one
abbrev pub HasRule : Option Zone → Type 0
HasRule None = Unit {0}
HasRule (Some zone) = IsSome (posix_rule (plain_zone zone))
