use Rattle.std.proofs.Common.{◌≡◌, ◌∙◌, ℕ, IsSome, Option, ap, sym, subst}
use Rattle.jiff.specs.Types.{TimeZone, UTC, Unknown, Fixed, Posix, Tzif}
use Rattle.jiff.specs.{ZoneView.plain_zone, declared.tz.timezone.TimeZone.TimeZone as Zone}
use Rattle.jiff_tz.specs.declared.posix.TimeZone.{TimeZone as PosixRule}
use Rattle.std.proofs.lemmas.Bool.{false≢true}
use Rattle.tariffs.proofs.UntilLemmas.{civil_window_end-is, plain_window_end-is}
use Rattle.tariffs.specs.{ClockView.ClockView, PosixRule.posix_rule}
use Rattle.tariffs.specs.Until.{IsCivilWindowEnd, window_end_by, window_end_in}
use Rattle.tariffs.specs.declared.window_span.WindowSpan.{WindowSpan}
use Rattle.tariffs.specs.inside.PosixRule.{HasRule, rule_of}
use Rattle.tariffs.proofs.clock.Clock.window_end.Goals as goal

by_rule : (zone : TimeZone) (span : WindowSpan) (start window_end : ℕ)
    → IsSome (posix_rule zone) → IsCivilWindowEnd zone span start window_end
    → window_end ≡ window_end_by (posix_rule zone) span start
by_rule UTC span start window_end rule is = absurd (false≢true rule)
by_rule Unknown span start window_end rule is = absurd (false≢true rule)
by_rule (Fixed offset) span start window_end rule is = absurd (false≢true rule)
by_rule (Posix zone) span start window_end rule is =
    civil_window_end-is zone span start window_end is
by_rule (Tzif zone) span start window_end rule is = absurd (false≢true rule)

pub returns-in-Some-clause-value : goal.returns-in-Some-clause-value
returns-in-Some-clause-value c =
    let P : Option Zone → Type 0 = HasRule in
    let rule : IsSome (posix_rule (plain_zone c.in-Some.zone)) =
    subst P c.in-Some.is c.self.invariant in
    by_rule (plain_zone c.in-Some.zone) c.args.span c.args.moment c.civil_window_end.result
    rule c.civil_window_end.ensures.window_end
    ∙ ap (λ (z : Option PosixRule). window_end_by z c.args.span c.args.moment)
    (ap rule_of (sym c.in-Some.is))
    ∙ ap (λ (clock : ClockView). window_end_in clock c.args.span c.args.moment) c.self.view_is

pub returns-in-None-clause-value : goal.returns-in-None-clause-value
returns-in-None-clause-value c =
    plain_window_end-is c.args.span c.args.moment c.plain_window_end.result
    c.plain_window_end.ensures.window_end
    ∙ ap (λ (z : Option PosixRule). window_end_by z c.args.span c.args.moment)
    (ap rule_of (sym c.in-None.is))
    ∙ ap (λ (clock : ClockView). window_end_in clock c.args.span c.args.moment) c.self.view_is
