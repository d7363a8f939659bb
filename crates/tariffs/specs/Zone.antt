-- The zone of a tariff: its text, and the rule that it goes by.
use Rattle.jiff.specs.ZoneView.{plain_zone}
use Rattle.jiff_tz.specs.declared.posix.TimeZone.{TimeZone as PosixRule}
use Rattle.std.specs.Option.{option_and_then}
use Rattle.std.specs.Prelude.{ℕ, List, Option, option_map, string_bytes}
use Rattle.tariffs.specs.{PosixRule.posix_rule, declared.zone.Zone.Zone}

-- the text of a zone, if there is one
abbrev pub zone_text : Option Zone → Option (List ℕ)
zone_text zone = option_map (λ z. string_bytes z.text) zone

-- the rule of a zone, if there is one
abbrev pub zone_rule : Option Zone → Option PosixRule
zone_rule zone = option_and_then (λ z. posix_rule (plain_zone z.rule)) zone
