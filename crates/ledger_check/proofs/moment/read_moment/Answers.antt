use Rattle.std.proofs.Common.{◌/◌, ◌∙◌, Some, ap, arith}
use Rattle.std.proofs.lemmas.Option.{same_Some}
use Rattle.ledger_check.proofs.MomentLemmas.{moment_number, moment_parts}
use Rattle.ledger_check.proofs.moment.read_moment.Goals as goal

pub returns-then-text-ne24-clause-found : goal.returns-then-text-ne24-clause-found
returns-then-text-ne24-clause-found c = λ moment small is.
    let size = (moment_parts moment c.args.text.now (omega (arith, small)) is).size in
    absurd (omega (arith, size))

pub returns-in_err-day-clause-found : goal.returns-in_err-day-clause-found
returns-in_err-day-clause-found c = λ moment small is.
    let parts = moment_parts moment c.args.text.now (omega (arith, small)) is in
    let day = c.in_err-day.ensures.found parts.date (moment / 86_400_000) parts.year_is
    parts.month_is parts.day_is parts.day in
    absurd (cc)

pub returns-then-moment-lt-MOMENT_LIMIT_MS-clause-found :
    goal.returns-then-moment-lt-MOMENT_LIMIT_MS-clause-found
returns-then-moment-lt-MOMENT_LIMIT_MS-clause-found c = λ moment small is.
    let parts = moment_parts moment c.args.text.now (omega (arith, small)) is in
    let day = c.in_ok-day.ensures.found parts.date (moment / 86_400_000) parts.year_is
    parts.month_is parts.day_is parts.day in
    ap Some (moment_number moment c.in_ok-day.day c.clock_at.result (same_Some _ _ day)
    (c.clock_at.ensures.value ∙ parts.clock_is))

pub returns-else-moment-lt-MOMENT_LIMIT_MS-clause-found :
    goal.returns-else-moment-lt-MOMENT_LIMIT_MS-clause-found
returns-else-moment-lt-MOMENT_LIMIT_MS-clause-found c = λ moment small is.
    let parts = moment_parts moment c.args.text.now (omega (arith, small)) is in
    let day = c.in_ok-day.ensures.found parts.date (moment / 86_400_000) parts.year_is
    parts.month_is parts.day_is parts.day in
    let whole = moment_number moment c.in_ok-day.day c.clock_at.result (same_Some _ _ day)
    (c.clock_at.ensures.value ∙ parts.clock_is) in
    absurd (omega (arith, whole, small, c.if-moment-lt-MOMENT_LIMIT_MS.false))
