-- The date is the one of the moment's day.
use Rattle.std.proofs.Common.{◌≡◌, ℕ, ◌/◌, ◌%◌, ◌++◌, pos, List, refl, sym, ap, ◌∙◌, append_assoc}
use Rattle.std.proofs.Common.{arith}
use Rattle.std.proofs.lemmas.Int.{ints}
use Rattle.jiff.proofs.SpanFacts.{signed_arith}
use Rattle.jiff_core.specs.Date.{epoch_day}
use Rattle.jiff_fmt.specs.Text.{date_text}
use Rattle.fare_texts.specs.Moments.{clock_text}
use Rattle.fare_texts.proofs.Years.{year_of}
use Rattle.fare_texts.proofs.moment.put_civil.Goals as goal

pub returns-clause-put : goal.returns-clause-put
returns-clause-put c =
    let date = c.from_days_since_min-date.result in
    let day : epoch_day date ≡ pos (c.args.moment / 86_400_000) =
    omega (arith, ints, signed_arith, c.from_days_since_min-date.ensures) in
    let year = year_of date (c.args.moment / 86_400_000) day in
    let clock = clock_text (c.args.moment % 86_400_000) in (
      date_text date ++ clock,
      record { date = date; day = day; shown = refl },
      c.put_date.ensures.put year.0 year.1
          ∙ ap (λ (back : List ℕ). date_text date ++ back) c.put_clock.ensures.put
          ∙ sym (append_assoc (date_text date) clock c.args.line.now),
    )
