-- With neither caps nor prices the step is that of the account alone.
use Rattle.std.proofs.Common.{[], ◌∷◌, ◌++◌, sym, ◌∙◌}
use Rattle.fare_caps.proofs.ExplainLemmas.{empty-holds, empty-reply}
use Rattle.fare_caps.specs.{CapMeanings.capped_rules_of, Represents.RepresentsSome}
use Rattle.account_rule.specs.Represents as kept
use Rattle.fare_caps.proofs.capped_account.CappedAccount.step.Goals as goal

pub step-requires-clause-holds : goal.step-requires-clause-holds
unfolding RepresentsSome kept.RepresentsSome capped_rules_of
step-requires-clause-holds c = (c.requires.holds.0, c.requires.holds.1.account)

pub returns-clause-reply : goal.returns-clause-reply
unfolding capped_rules_of
returns-clause-reply c = λ taps holds. c.step.ensures.reply taps holds.account
    ∙ sym (empty-reply c.args.table.now c.args.token.now taps c.args.tap
    (sym c.has_caps_or_prices_at.ensures ∙ c.if-has_caps_or_prices_at.false))

pub returns-clause-holds : goal.returns-clause-holds
unfolding capped_rules_of
returns-clause-holds c = λ taps holds.
    empty-holds c.args.table.now c.args.token.now c.step.new.self
    c.args.self.now.further (taps ++ c.args.tap ∷ [])
    (sym c.has_caps_or_prices_at.ensures ∙ c.if-has_caps_or_prices_at.false)
    (c.step.ensures.holds taps holds.account)

pub returns-clause-some : goal.returns-clause-some
unfolding RepresentsSome
returns-clause-some c = (
  c.requires.holds.0 ++ c.args.tap ∷ [],
  returns-clause-holds c c.requires.holds.0 c.requires.holds.1,
)
