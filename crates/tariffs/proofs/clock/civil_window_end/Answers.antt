use Rattle.std.proofs.Common.{◌∙◌, FitsSigned, ap, pos, subst, sym, w64}
use Rattle.jiff.specs.{Types.Date, ZoneView.plain_zone}
use Rattle.std.proofs.lemmas.Int.{to_z-of_z}
use Rattle.std.specs.Prelude.{int_div}
use Rattle.tariffs.proofs.UntilLemmas.{after_start, fits_word, in_millis, is_instant, later_nanos}
use Rattle.tariffs.proofs.UntilLemmas.{whole_end}
use Rattle.tariffs.specs.Until.{IsEndDate}
use Rattle.tariffs.proofs.clock.civil_window_end.Goals as goal

pub unwrap-window_end-requires : goal.unwrap-window_end-requires
unwrap-window_end-requires c =
    let whole = whole_end (plain_zone c.args.zone.now) c.args.span.day_starts c.day_start-start.result
    c.day_at-day.result c.end_date.result c.day_at-day.ensures.low c.day_at-day.ensures.high
    c.end_date.ensures.after c.end_date.ensures.near c.day_start-start.ensures.date
    c.day_start-start.ensures.time in
    c.to_timestamp.ensures.succeeds.1 (is_instant _ _ whole)

pub returns-clause-window_end : goal.returns-clause-window_end
returns-clause-window_end c =
    let whole = whole_end (plain_zone c.args.zone.now) c.args.span.day_starts c.day_start-start.result
    c.day_at-day.result c.end_date.result c.day_at-day.ensures.low c.day_at-day.ensures.high
    c.end_date.ensures.after c.end_date.ensures.near c.day_start-start.ensures.date
    c.day_start-start.ensures.time in
    let at = rw c.unwrap-window_end.ensures at c.to_timestamp.ensures.value in
    let millis = in_millis _ _ c.as_millisecond.result whole (c.as_millisecond.ensures
    ∙ ap (λ n. int_div n (pos 1_000_000)) at) in
    let fits : FitsSigned w64 c.as_millisecond.result = fits_word _ _ c.as_millisecond.result whole
    millis in
    let later = simp to_z-of_z at c.end_after.ensures in
    record {
      day = c.day_at-day.result;
      is_day = c.day_at-day.ensures.day;
      end = c.day_start-start.result;
      date = subst (λ (d : Date). IsEndDate c.args.span.length c.day_at-day.result d)
          (sym c.day_start-start.ensures.date) c.end_date.ensures.date;
      time = c.day_start-start.ensures.time;
      at = later_nanos c.args.moment c.end_after.result _ c.as_millisecond.result _ millis
          whole.whole later;
    }

pub returns-clause-after : goal.returns-clause-after
returns-clause-after c =
    let whole = whole_end (plain_zone c.args.zone.now) c.args.span.day_starts c.day_start-start.result
    c.day_at-day.result c.end_date.result c.day_at-day.ensures.low c.day_at-day.ensures.high
    c.end_date.ensures.after c.end_date.ensures.near c.day_start-start.ensures.date
    c.day_start-start.ensures.time in
    let at = rw c.unwrap-window_end.ensures at c.to_timestamp.ensures.value in
    let millis = in_millis _ _ c.as_millisecond.result whole (c.as_millisecond.ensures
    ∙ ap (λ n. int_div n (pos 1_000_000)) at) in
    let fits : FitsSigned w64 c.as_millisecond.result = fits_word _ _ c.as_millisecond.result whole
    millis in
    let later = simp to_z-of_z at c.end_after.ensures in
    after_start c.args.moment c.end_after.result c.as_millisecond.result later
