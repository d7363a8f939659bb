use Rattle.std.proofs.Common.{sym, ◌∙◌}
use Rattle.tap_parts.specs.Keys.{tap_of_key}
use Rattle.sorted_taps.proofs.Joining.{not_before_self, ranked}
use Rattle.sorted_taps.proofs.limit.lesser.Goals as goal

pub returns-then-is_before-clause-one : goal.returns-then-is_before-clause-one
returns-then-is_before-clause-one c =
    ranked.one_way (tap_of_key c.args.other) (tap_of_key c.args.one)
    (sym c.is_before.ensures ∙ c.if-is_before.true)

pub returns-then-is_before-clause-other : goal.returns-then-is_before-clause-other
returns-then-is_before-clause-other c = not_before_self (tap_of_key c.args.other)

pub returns-else-is_before-clause-one : goal.returns-else-is_before-clause-one
returns-else-is_before-clause-one c = not_before_self (tap_of_key c.args.one)
