use Rattle.std.proofs.Common.{◌-◌, length, subst, sym, ◌∙◌}
use Rattle.sorted_taps.proofs.Joining.{not_before_self, ranked}
use Rattle.sorted_taps.specs.{Merged.IsNotBefore, declared.limit.Front.Front}
use Rattle.sorted_taps.specs.inside.Limits.{IsFrontOf}
use Rattle.std.proofs.lemmas.Option.{get_or_from_slice_get}
use Rattle.std.specs.Prelude.{Option}
use Rattle.tap_parts.specs.Keys.{tap_of_key}
use Rattle.sorted_taps.proofs.limit.least_front.Goals as goal

pub returns-in-None-clause-last : goal.returns-in-None-clause-last
returns-in-None-clause-last c = λ d some.
    subst (IsNotBefore (tap_of_key c.of-other.result.last))
    (c.of-other.ensures ∙ sym (get_or_from_slice_get c.args.ahead.now (length c.args.ahead.now - 1)
    c.in-Some-Some.last.now d (sym c.in-Some-Some.ensures'.value)))
    (not_before_self (tap_of_key c.of-other.result.last))

pub returns-in-Some-clause-last : goal.returns-in-Some-clause-last
returns-in-Some-clause-last c = λ d some.
    subst (IsNotBefore (tap_of_key c.least.result.last))
    (c.of-other.ensures ∙ sym (get_or_from_slice_get c.args.ahead.now (length c.args.ahead.now - 1)
    c.in-Some-Some.last.now d (sym c.in-Some-Some.ensures'.value))) c.least.ensures.other

pub returns-in-Some-clause-kept : goal.returns-in-Some-clause-kept
returns-in-Some-clause-kept c = λ list is d some.
    let front = c.in-Some.front in
    ranked.chain _ (tap_of_key front.last) (tap_of_key c.least.result.last)
    (subst (λ (o : Option Front). IsFrontOf o list) c.in-Some.is is d some) c.least.ensures.one
