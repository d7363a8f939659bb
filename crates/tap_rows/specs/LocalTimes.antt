-- The offsets of a local time: a date and a clock without an offset, in a time zone.
use Rattle.jiff_core.specs.{Calendar.days_from_civil, declared.Offset.Offset}
use Rattle.jiff_fmt.specs.Temporal.{DateParts, TimeParts}
use Rattle.jiff_tz.specs.PosixRule.{ambiguous_by, match_some, rule_nanos}
use Rattle.jiff_tz.specs.Tzif.{civil_count_at, is_inside, offsets_in, rule_after, transition_at}
use Rattle.jiff_tz.specs.{Tzif.type_after, Zone.utc_offset}
use Rattle.jiff_tz.specs.declared.ambiguous.AmbiguousOffset.{AmbiguousOffset}
use Rattle.jiff_tz.specs.declared.ambiguous.AmbiguousOffset.TheVariants.{Fold, Gap, Unambiguous}
use Rattle.jiff_tz.specs.declared.posix.{Dst.Dst, TimeZone.TimeZone as Rule}
use Rattle.jiff_tz.specs.declared.{timezone.TimeZone.TimeZone, tzif.Tzif.Tzif}
use Rattle.std.specs.Prelude.{◌+ℤ◌, ◌*ℤ◌, ◌+◌, ◌-◌, ◌*◌, ℕ, ℤ, Err, None, Ok, Option, Result, Some}
use Rattle.std.specs.Prelude.{if◌then◌else◌, pos}
use Rattle.tap_rows.specs.declared.agency.choice.{Fold.Fold as Folds, LocalClock.LocalClock}
use Rattle.tap_rows.specs.declared.agency.reading.Reason.{Reason}
use Rattle.jiff_tz.specs.declared.timezone.TimeZone.TheVariants as zones
use Rattle.tap_rows.specs.declared.agency.choice.Fold.TheVariants as folds
use Rattle.tap_rows.specs.declared.agency.reading.Reason.TheVariants as why

-- a date and a time of day, as a text writes them
abbrev pub Written : Type 0
Written = DateParts × TimeParts

-- the number of its day: 0 for 1970-01-01
abbrev pub day_of : Written → ℤ
day_of time = days_from_civil time.0.year time.0.month time.0.day

-- the seconds of its day
abbrev pub day_seconds : Written → ℕ
day_seconds time = time.1.hour * 3600 + time.1.minute * 60 + time.1.second

-- the seconds since 1970-01-01T00:00:00 on a clock whose days have 24 hours
abbrev pub clock_seconds : Written → ℤ
clock_seconds time = day_of time *ℤ pos 86_400 +ℤ pos (day_seconds time)

-- the nanoseconds
abbrev pub clock_nanos : Written → ℤ
clock_nanos time = day_of time *ℤ pos 86_400_000_000_000
    +ℤ pos (day_seconds time * 1_000_000_000 + time.1.subsec)

-- ---- its offsets
-- by standard time, and daylight saving time if there is such
abbrev pub offsets_by : Offset → Option Dst → Written → AmbiguousOffset
offsets_by standard None time = Unambiguous standard
offsets_by standard (Some dst) time = ambiguous_by standard dst.offset
    (rule_nanos time.0.year dst.rule.start (pos 0), rule_nanos time.0.year dst.rule.end (pos 0))
    (clock_nanos time)

-- by a POSIX rule
abbrev pub rule_offsets : Written → Rule → AmbiguousOffset
rule_offsets time rule = offsets_by rule.std_offset rule.dst time

-- by a table, of whose transitions so many begin at this time or before it
abbrev pub offsets_after : Tzif → ℕ → Written → AmbiguousOffset
offsets_after table count time =
    if is_inside table count (clock_seconds time)
    then offsets_in (transition_at table (count - 1))
    else match_some (rule_after table count) (Unambiguous (type_after table count).offset)
    (rule_offsets time)

-- in a time zone
unfoldable pub offsets_in_zone : TimeZone → Written → AmbiguousOffset
offsets_in_zone zones.UTC time = Unambiguous utc_offset
offsets_in_zone zones.Unknown time = Unambiguous utc_offset
offsets_in_zone (zones.Fixed offset) time = Unambiguous offset
offsets_in_zone (zones.Posix rule) time = rule_offsets time rule
offsets_in_zone (zones.Tzif table) time =
    offsets_after table.now (civil_count_at table.now (clock_seconds time)) time

-- ---- the offset that is meant
-- One that is skipped has none. One that comes twice has the first or the second, if it is said.
abbrev pub offset_by : Folds → AmbiguousOffset → Result Offset Reason
offset_by fold (Unambiguous offset) = Ok offset
offset_by fold (Gap before after) = Err why.Skipped
offset_by folds.Unsaid (Fold before after) = Err why.Twice
offset_by folds.First (Fold before after) = Ok before
offset_by folds.Second (Fold before after) = Ok after

-- that of a local time on this clock
abbrev pub offset_at : LocalClock → Written → Result Offset Reason
offset_at local time = offset_by local.fold (offsets_in_zone local.zone time)
