use Rattle.std.proofs.Common.{arith, ◌∙◌, ◌+ℤ◌, FitsSigned, w64}
use Rattle.std.proofs.lemmas.Int.{to_z-of_z}
use Rattle.jiff.proofs.SpanFacts.{signed_arith, date_add-days, can_add-days}
use Rattle.jiff.specs.Words.{IsEpochDay, epoch_day}
use Rattle.tariffs.proofs.clock.days_later.Goals as goal

pub unwrap-requires : goal.unwrap-requires
unwrap-requires c =
    let fits : FitsSigned w64 c.args.days = omega (arith, signed_arith) in
    let only = simp to_z-of_z at c.days.ensures in
    let day : IsEpochDay (epoch_day c.args.date +ℤ c.args.days) =
    (omega (arith, signed_arith), omega (arith, signed_arith)) in
    c.checked_add.ensures.succeeds.1
    ((can_add-days c.args.date c.args.days c.days.result only).1 day)

pub returns : goal.returns
returns c =
    let fits : FitsSigned w64 c.args.days = omega (arith, signed_arith) in
    let only = simp to_z-of_z at c.days.ensures in
    rw c.unwrap.ensures at c.checked_add.ensures.value
    ∙ date_add-days c.args.date c.args.days c.days.result only
