-- Each way out of the step is one of the rule's cases: neither caps nor prices, a tap that is not
-- live, a ride, or a transfer.
use Rattle.std.proofs.Common.{List, [], ◌∷◌, ◌++◌, arith, sym, ◌∙◌}
use Rattle.account_rule.specs.Represents as kept
use Rattle.account_rule.specs.declared.tap.TapIn.{TapIn}
use Rattle.fare_caps.specs.CapMeanings.{capped_rules_of}
use Rattle.fare_caps.specs.Represents.{Represents, RepresentsSome}
use Rattle.fare_caps.specs.declared.capped_reason.CappedReason.TheVariants.{Ride}
use Rattle.fare_caps.proofs.BillLemmas.{reply-cents}
use Rattle.fare_caps.proofs.ExplainLemmas.{IsStep, empty-step, few-reason, free-step, ride-step-by}
use Rattle.fare_caps.proofs.ExplainLemmas.{some-rules, transfer-step-by}
use Rattle.fare_caps.proofs.capped_account.CappedAccount.explain_step.Goals as goal
use Rattle.fare_caps.proofs.capped_account.CappedAccount.explain_step.Goals.{After-charge_ride}
use Rattle.fare_caps.proofs.capped_account.CappedAccount.explain_step.Goals.{After-transfer_reason}

pub explain_step-reason-requires-clause-holds : goal.explain_step-reason-requires-clause-holds
unfolding RepresentsSome kept.RepresentsSome capped_rules_of
explain_step-reason-requires-clause-holds c = (c.requires.holds.0, c.requires.holds.1.account)

-- there are neither caps nor prices

pub returns-then-not-has_caps_or_prices-clause-reason
    : goal.returns-then-not-has_caps_or_prices-clause-reason
unfolding capped_rules_of
returns-then-not-has_caps_or_prices-clause-reason c = λ taps holds.
    c.uncapped.ensures
    ∙ (empty-step c.args.table.now c.args.token.now c.explain_step-reason.new.self
    c.args.self.now.further taps c.args.tap c.explain_step-reason.result
    (sym c.has_caps_or_prices.ensures ∙ c.if-not-has_caps_or_prices.true)
    (c.explain_step-reason.ensures.reason taps holds.account)
    (c.explain_step-reason.ensures.holds taps holds.account)).reason

pub returns-then-not-has_caps_or_prices-clause-holds
    : goal.returns-then-not-has_caps_or_prices-clause-holds
unfolding capped_rules_of
returns-then-not-has_caps_or_prices-clause-holds c = λ taps holds.
    (empty-step c.args.table.now c.args.token.now c.explain_step-reason.new.self
    c.args.self.now.further taps c.args.tap c.explain_step-reason.result
    (sym c.has_caps_or_prices.ensures ∙ c.if-not-has_caps_or_prices.true)
    (c.explain_step-reason.ensures.reason taps holds.account)
    (c.explain_step-reason.ensures.holds taps holds.account)).holds

pub returns-then-not-has_caps_or_prices-clause-some
    : goal.returns-then-not-has_caps_or_prices-clause-some
unfolding RepresentsSome
returns-then-not-has_caps_or_prices-clause-some c = (
  c.requires.holds.0 ++ c.args.tap ∷ [],
  returns-then-not-has_caps_or_prices-clause-holds c c.requires.holds.0 c.requires.holds.1,
)

-- the tap is not live

pub returns-in-Free-clause-reason : goal.returns-in-Free-clause-reason
unfolding capped_rules_of
returns-in-Free-clause-reason c = λ taps holds.
    c.uncapped-in-Free.ensures
    ∙ (free-step c.args.table.now c.args.token.now c.explain_step-reason.new.self
    c.args.self.now.further taps c.args.tap c.explain_step-reason.result
    (c.explain_step-reason.ensures.reason taps holds.account)
    (c.explain_step-reason.ensures.holds taps holds.account) holds.further
    (sym c.live_kind.ensures ∙ c.in-Free.is)).reason

pub returns-in-Free-clause-holds : goal.returns-in-Free-clause-holds
unfolding capped_rules_of
returns-in-Free-clause-holds c = λ taps holds.
    (free-step c.args.table.now c.args.token.now c.explain_step-reason.new.self
    c.args.self.now.further taps c.args.tap c.explain_step-reason.result
    (c.explain_step-reason.ensures.reason taps holds.account)
    (c.explain_step-reason.ensures.holds taps holds.account) holds.further
    (sym c.live_kind.ensures ∙ c.in-Free.is)).holds

pub returns-in-Free-clause-some : goal.returns-in-Free-clause-some
unfolding RepresentsSome
returns-in-Free-clause-some c = (
  c.requires.holds.0 ++ c.args.tap ∷ [],
  returns-in-Free-clause-holds c c.requires.holds.0 c.requires.holds.1,
)

-- the tap is a ride

pub charge_ride-requires-clause-room : goal.charge_ride-requires-clause-room
unfolding RepresentsSome
charge_ride-requires-clause-room c =
    (c.requires.holds.1.further (some-rules c.args.table.now c.args.token.now
    (sym c.has_caps_or_prices.ensures ∙ c.if-not-has_caps_or_prices.false))).states.room

is_ride : (c : After-charge_ride) (taps : List TapIn)
    → Represents (capped_rules_of c.args.table.now c.args.token.now) c.args.self.now
    taps
    → IsStep (capped_rules_of c.args.table.now c.args.token.now) taps c.args.tap
    (Ride c.in-Ride.start c.in-Ride.until c.charge_ride.result)
    c.explain_step-reason.new.self c.charge_ride.new.self
unfolding capped_rules_of
is_ride c taps holds =
    ride-step-by c.args.table.now c.args.token.now c.explain_step-reason.new.self
    c.args.self.now.further c.charge_ride.new.self taps c.args.tap c.explain_step-reason.result
    c.in-Ride.start c.in-Ride.until c.in-Ride.mode c.charge_ride.result c.args.clock.now
    c.at-tariff.result.now.meaning c.class_of-class.result c.caps.result.now
    (c.explain_step-reason.ensures.reason taps holds.account)
    (c.explain_step-reason.ensures.holds taps holds.account)
    (holds.further (some-rules c.args.table.now c.args.token.now
    (sym c.has_caps_or_prices.ensures ∙ c.if-not-has_caps_or_prices.false)))
    (sym c.live_kind.ensures ∙ c.in-Ride.is) c.requires.clock c.at-tariff.ensures.meaning
    c.class_of-class.ensures.class c.caps.ensures.caps c.charge_ride.ensures.bounds
    c.charge_ride.ensures.room c.charge_ride.ensures.charge c.charge_ride.ensures.state

pub returns-in-Ride-clause-reason : goal.returns-in-Ride-clause-reason
returns-in-Ride-clause-reason c = λ taps holds. (is_ride c taps holds).reason

pub returns-in-Ride-clause-holds : goal.returns-in-Ride-clause-holds
returns-in-Ride-clause-holds c = λ taps holds. (is_ride c taps holds).holds

pub returns-in-Ride-clause-some : goal.returns-in-Ride-clause-some
unfolding RepresentsSome
returns-in-Ride-clause-some c = (
  c.requires.holds.0 ++ c.args.tap ∷ [],
  returns-in-Ride-clause-holds c c.requires.holds.0 c.requires.holds.1,
)

pub returns-in-Ride-clause-few : goal.returns-in-Ride-clause-few
returns-in-Ride-clause-few c =
    omega (arith, reply-cents c.charge_ride.result, c.charge_ride.ensures.few)

-- the tap is a transfer

pub charge_transfer-charge-requires-clause-room : goal.charge_transfer-charge-requires-clause-room
unfolding RepresentsSome
charge_transfer-charge-requires-clause-room c =
    (c.requires.holds.1.further (some-rules c.args.table.now c.args.token.now
    (sym c.has_caps_or_prices.ensures ∙ c.if-not-has_caps_or_prices.false))).states.room

is_transfer : (c : After-transfer_reason) (taps : List TapIn)
    → Represents (capped_rules_of c.args.table.now c.args.token.now) c.args.self.now
    taps
    → IsStep (capped_rules_of c.args.table.now c.args.token.now) taps c.args.tap
    c.transfer_reason.result c.explain_step-reason.new.self c.charge_transfer-charge.new.self
unfolding capped_rules_of
is_transfer c taps holds =
    rw c.transfer_reason.ensures
    (transfer-step-by c.args.table.now c.args.token.now c.explain_step-reason.new.self
    c.args.self.now.further c.charge_transfer-charge.new.self taps c.args.tap
    c.explain_step-reason.result
    c.in-Transfer.moment c.in-Transfer.ride_mode c.in-Transfer.mode c.charge_transfer-charge.result
    c.at-tariff-in-Transfer.result.now.meaning c.class_of-class-in-Transfer.result
    c.caps-in-Transfer.result.now
    (c.explain_step-reason.ensures.reason taps holds.account)
    (c.explain_step-reason.ensures.holds taps holds.account)
    (holds.further (some-rules c.args.table.now c.args.token.now
    (sym c.has_caps_or_prices.ensures ∙ c.if-not-has_caps_or_prices.false)))
    (sym c.live_kind.ensures ∙ c.in-Transfer.is) c.at-tariff-in-Transfer.ensures.meaning
    c.class_of-class-in-Transfer.ensures.class c.caps-in-Transfer.ensures.caps
    c.charge_transfer-charge.ensures.room c.charge_transfer-charge.ensures.charge
    c.charge_transfer-charge.ensures.state)

pub returns-in-Transfer-clause-reason : goal.returns-in-Transfer-clause-reason
returns-in-Transfer-clause-reason c = λ taps holds. (is_transfer c taps holds).reason

pub returns-in-Transfer-clause-holds : goal.returns-in-Transfer-clause-holds
returns-in-Transfer-clause-holds c = λ taps holds. (is_transfer c taps holds).holds

pub returns-in-Transfer-clause-some : goal.returns-in-Transfer-clause-some
unfolding RepresentsSome
returns-in-Transfer-clause-some c = (
  c.requires.holds.0 ++ c.args.tap ∷ [],
  returns-in-Transfer-clause-holds c c.requires.holds.0 c.requires.holds.1,
)

pub returns-in-Transfer-clause-few : goal.returns-in-Transfer-clause-few
returns-in-Transfer-clause-few c =
    rw c.transfer_reason.ensures
    (few-reason c.charge_transfer-charge.new.self c.in-Transfer.moment c.in-Transfer.ride_mode
    c.charge_transfer-charge.result c.charge_transfer-charge.ensures.few)
