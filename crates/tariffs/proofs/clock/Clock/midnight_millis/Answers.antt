use Rattle.std.proofs.Common.{◌∙◌, arith, FitsSigned, IsSome, Option, ap, sym, subst, w64}
use Rattle.jiff.proofs.SpanFacts.{signed_arith}
use Rattle.jiff.specs.{Words.epoch_day, ZoneView.plain_zone}
use Rattle.jiff.specs.declared.tz.timezone.TimeZone.{TimeZone as Zone}
use Rattle.jiff_tz.specs.declared.posix.TimeZone.{TimeZone as PosixRule}
use Rattle.std.proofs.lemmas.Int.{to_z-of_z}
use Rattle.tariffs.proofs.UntilLemmas.{midnight-is, midnight-utc}
use Rattle.tariffs.specs.{ClockView.ClockView, PosixRule.posix_rule, Until.midnight_by}
use Rattle.tariffs.specs.inside.PosixRule.{HasRule, rule_of}
use Rattle.tariffs.proofs.clock.Clock.midnight_millis.Goals as goal

pub returns-in-Some : goal.returns-in-Some
returns-in-Some c =
    let P : Option Zone → Type 0 = HasRule in
    let rule : IsSome (posix_rule (plain_zone c.in-Some.zone)) =
    subst P c.in-Some.is c.self.invariant in
    let fits : FitsSigned w64 c.midnight_millis.result =
    omega (arith, signed_arith, c.midnight_millis.ensures.low, c.midnight_millis.ensures.high) in
    simp to_z-of_z
    (midnight-is (plain_zone c.in-Some.zone) c.args.date _ rule c.midnight_millis.ensures.at
    ∙ ap (λ (z : Option PosixRule). midnight_by z (epoch_day c.args.date))
    (ap rule_of (sym c.in-Some.is))
    ∙ ap (λ (clock : ClockView). midnight_by clock.rule (epoch_day c.args.date)) c.self.view_is)

pub returns-in-None : goal.returns-in-None
returns-in-None c =
    let fits : FitsSigned w64 c.midnight_millis-in-None.result =
    omega (
      arith,
      signed_arith,
      c.midnight_millis-in-None.ensures.low,
      c.midnight_millis-in-None.ensures.high,
    ) in
    simp to_z-of_z
    (midnight-utc c.args.date _ c.midnight_millis-in-None.ensures.at
    ∙ ap (λ (z : Option PosixRule). midnight_by z (epoch_day c.args.date))
    (ap rule_of (sym c.in-None.is))
    ∙ ap (λ (clock : ClockView). midnight_by clock.rule (epoch_day c.args.date)) c.self.view_is)
