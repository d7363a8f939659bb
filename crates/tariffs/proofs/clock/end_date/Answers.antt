use Rattle.std.proofs.Common.{◌≡◌, ◌∙◌, ◌-ℤ◌, FitsSigned, arith, pos, w8, w64}
use Rattle.std.proofs.lemmas.Int.{to_z-of_z}
use Rattle.jiff.proofs.SpanFacts.{signed_arith}
use Rattle.jiff.specs.Words.{epoch_day, monday_zero}
use Rattle.jiff_core.specs.Calendar.{weekday_number}
use Rattle.tariffs.proofs.UntilLemmas.{month_end, week_end}
use Rattle.tariffs.proofs.clock.end_date.Goals as goal

pub days_later-requires-in-CalendarMonth-clause-low :
    goal.days_later-requires-in-CalendarMonth-clause-low
days_later-requires-in-CalendarMonth-clause-low c =
    let last = month_end c.args.shown c.last_of_month.result c.last_of_month.ensures in
    omega (arith, signed_arith, last.not_before)

pub days_later-requires-in-CalendarMonth-clause-high :
    goal.days_later-requires-in-CalendarMonth-clause-high
days_later-requires-in-CalendarMonth-clause-high c =
    let last = month_end c.args.shown c.last_of_month.result c.last_of_month.ensures in
    omega (arith, signed_arith, last.near)

pub returns-in-CalendarWeek-clause-date : goal.returns-in-CalendarWeek-clause-date
returns-in-CalendarWeek-clause-date c =
    let bound = c.to_monday_zero_offset.ensures.bound in
    let byte : FitsSigned w8 c.to_monday_zero_offset.result =
    omega (arith, signed_arith, bound.0, bound.1) in
    let offset = simp to_z-of_z at c.from-weekday.ensures in
    let weekday : FitsSigned w64 c.from-weekday.result =
    omega (arith, signed_arith, bound.0, bound.1, offset) in
    let word : FitsSigned w64 (pos 7 -ℤ c.from-weekday.result) =
    omega (arith, signed_arith, bound.0, bound.1, offset) in
    let later = simp to_z-of_z at c.days_later-in-CalendarWeek.ensures in
    let monday : weekday_number (epoch_day c.days_later-in-CalendarWeek.result) ≡ 0 =
    week_end (epoch_day c.args.shown) (epoch_day c.days_later-in-CalendarWeek.result)
    c.from-weekday.result (monday_zero c.weekday.result) c.weekday.ensures
    (offset ∙ c.to_monday_zero_offset.ensures.value) later in
    rw c.in-CalendarWeek.is (
      monday,
      omega (arith, signed_arith, bound.0, bound.1, offset, later),
      omega (arith, signed_arith, bound.0, bound.1, offset, later),
    )

pub returns-in-CalendarMonth-clause-after : goal.returns-in-CalendarMonth-clause-after
returns-in-CalendarMonth-clause-after c =
    let last = month_end c.args.shown c.last_of_month.result c.last_of_month.ensures in
    omega (arith, signed_arith, last.not_before)

pub returns-in-CalendarMonth-clause-near : goal.returns-in-CalendarMonth-clause-near
returns-in-CalendarMonth-clause-near c =
    let last = month_end c.args.shown c.last_of_month.result c.last_of_month.ensures in
    omega (arith, signed_arith, last.near)
