use Rattle.std.proofs.Common.{◌∙◌, ◌+ℤ◌, ◌-ℤ◌, ap, pos}
use Rattle.jiff.specs.{Words.nanos_of_seconds, Words.offset_at, ZoneView.plain_zone}
use Rattle.tariffs.proofs.UntilLemmas.{shown_high, shown_low}
use Rattle.tariffs.specs.Until.{day_start_nanos, moment_nanos}
use Rattle.tariffs.proofs.clock.day_at.Goals as goal

pub returns-clause-day : goal.returns-clause-day
returns-clause-day c =
    record {
      shown = c.to_datetime-shown.result;
      date = c.date.ensures;
      shows =
          c.to_datetime-shown.ensures
          ∙ ap (λ n. n +ℤ nanos_of_seconds c.to_offset.result.seconds) c.set_back.ensures
          ∙ ap (λ s. (moment_nanos c.args.moment -ℤ pos (day_start_nanos c.args.day_starts))
          +ℤ nanos_of_seconds s)
          (c.to_offset.ensures ∙ ap (λ n. offset_at (plain_zone c.args.zone.now) n) c.instant.ensures);
    }

pub returns-clause-low : goal.returns-clause-low
returns-clause-low c =
    rw c.date.ensures (shown_low c.args.day_starts c.args.moment c.to_offset.result
    c.set_back.result.nanosecond c.to_datetime-shown.result c.requires.starts c.set_back.ensures
    c.to_datetime-shown.ensures)

pub returns-clause-high : goal.returns-clause-high
returns-clause-high c =
    rw c.date.ensures (shown_high c.args.day_starts c.args.moment c.to_offset.result
    c.set_back.result.nanosecond c.to_datetime-shown.result c.requires.moment c.set_back.ensures
    c.to_datetime-shown.ensures)
