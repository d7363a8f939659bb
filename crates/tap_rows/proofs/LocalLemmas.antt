-- The offsets of a local time are those that its zone gives.
use Rattle.std.proofs.Common.{◌≡◌, ◌-◌, None, Option, Some, ap, refl}
use Rattle.jiff_core.specs.DateTime.{civil_nanos, civil_seconds}
use Rattle.jiff_core.specs.declared.{Offset.Offset, civil.datetime.DateTime.DateTime}
use Rattle.jiff_tz.specs.{PosixRule.ambiguous_at_by, PosixRule.match_some, Tzif.civil_count_at}
use Rattle.jiff_tz.specs.Tzif.{is_inside, offsets_in, rule_after, transition_at, type_after}
use Rattle.jiff_tz.specs.{Zone.ambiguous_at, declared.ambiguous.AmbiguousOffset.AmbiguousOffset}
use Rattle.jiff_tz.specs.declared.{ambiguous.AmbiguousOffset.TheVariants.Unambiguous, posix.Dst.Dst}
use Rattle.jiff_tz.specs.declared.{posix.TimeZone.TimeZone as Rule, timezone.TimeZone.TimeZone}
use Rattle.std.specs.Prelude.{if◌then◌else◌}
use Rattle.tap_rows.specs.LocalTimes.{clock_nanos, clock_seconds, offsets_by, offsets_in_zone}
use Rattle.tap_rows.specs.{LocalTimes.rule_offsets, inside.WrittenTimes.written_of}
use Rattle.jiff_tz.specs.PosixRule as Posix
use Rattle.jiff_tz.specs.declared.timezone.TimeZone.TheVariants as zones

by_rule : (standard : Offset) (dst : Option Dst) (time : DateTime)
    → ambiguous_at_by standard dst time ≡ offsets_by standard dst (written_of time)
unfolding civil_nanos
by_rule standard None time = refl
by_rule standard (Some dst) time = refl

after : (rule : Option Rule) (first : AmbiguousOffset) (time : DateTime)
    → match_some rule first (λ tz. Posix.ambiguous_at tz time)
    ≡ match_some rule first (rule_offsets (written_of time))
after None first time = refl
after (Some rule) first time = by_rule rule.std_offset rule.dst time

pub nanos_written : (time : DateTime) → civil_nanos time ≡ clock_nanos (written_of time)
unfolding civil_nanos
nanos_written time = refl

pub zone_offsets : (zone : TimeZone) (time : DateTime)
    → ambiguous_at zone time ≡ offsets_in_zone zone (written_of time)
unfolding ambiguous_at offsets_in_zone civil_seconds
zone_offsets zones.UTC time = refl
zone_offsets zones.Unknown time = refl
zone_offsets (zones.Fixed offset) time = refl
zone_offsets (zones.Posix rule) time = by_rule rule.std_offset rule.dst time
zone_offsets (zones.Tzif table) time =
    let second = clock_seconds (written_of time) in
    let count = civil_count_at table.now second in
    ap (λ (o : AmbiguousOffset). if is_inside table.now count second
    then offsets_in (transition_at table.now (count - 1)) else o)
    (after (rule_after table.now count) (Unambiguous (type_after table.now count).offset) time)
