-- Each way out is one of the rule's four cases: unknown, stale, transfer, ride. The reason is that
-- case's, and the account then stands for one tap more, as after a step.
use Rattle.std.proofs.Common.{◌≡◌, ◌≤◌, List, [], ◌∷◌, ◌++◌, Some, refl, sym, ◌∙◌, arith}
use Rattle.account_rule.proofs.FareLemmas.{given-few, ride_reason-few}
use Rattle.account_rule.proofs.ReasonLemmas.{reason_unknown, why_ride, why_stale, why_transfer}
use Rattle.account_rule.proofs.StepLemmas.{IsStep, at_fresh, at_kept, at_state, class_at, class_is}
use Rattle.account_rule.proofs.StepLemmas.{class_there, first_ride, gives_none-fresh}
use Rattle.account_rule.proofs.StepLemmas.{gives_none-state, gives_same, kept-fresh, kept-open}
use Rattle.account_rule.proofs.StepLemmas.{kept_room, listed, next_ride, stale, holds-open}
use Rattle.account_rule.proofs.StepLemmas.{terms_same, transfer, trip_order, unknown, until_same}
use Rattle.account_rule.proofs.WindowLemmas.{room-open}
use Rattle.account_rule.proofs.account.Account.explain_step.Goals.{After-explain_ride}
use Rattle.account_rule.proofs.account.Account.explain_step.Goals.{After-first_ride}
use Rattle.account_rule.proofs.account.Account.explain_step.Goals.{After-take_transfer}
use Rattle.account_rule.specs.{Kept.kept_numbers, Kept.kept_of, Kept.kept_trip, Replies.reply_with}
use Rattle.account_rule.specs.{Replies.ride_reply, Represents.Represents, Represents.RepresentsSome}
use Rattle.account_rule.specs.{Taps.live_at, TokenRules.rules_of, Windows.charge, Windows.paid_by}
use Rattle.account_rule.specs.declared.{reply.Answer.TheVariants.Transfer, tap.TapIn.TapIn}
use Rattle.account_rule.specs.{declared.window.Window.Window, inside.Kept.window_at}
use Rattle.tariffs.specs.{Fares.class_of, Fares.meaning_at, Fares.ride_terms, Until.window_end_in}
use Rattle.account_rule.proofs.account.Account.explain_step.Goals as goal

-- the tap's validator is not known

pub returns-in_default-clause-reason : goal.returns-in_default-clause-reason
returns-in_default-clause-reason c =
    λ taps holds. sym (reason_unknown _ taps c.args.tap c.in_default.is)

pub returns-in_default-clause-holds : goal.returns-in_default-clause-holds
unfolding Represents
returns-in_default-clause-holds c =
    λ taps holds. (unknown _ (kept_of c.args.self.now) taps c.args.tap holds
    c.in_default.is).holds

-- the tap is the first ride

pub next_reason-first-requires-clause-room : goal.next_reason-first-requires-clause-room
next_reason-first-requires-clause-room c = rw c.opened.ensures (room-open _ _)

pub first_ride-requires-clause-mode : goal.first_ride-requires-clause-mode
first_ride-requires-clause-mode c =
    rw c.at-tariff.ensures.modes (c.requires.mode _ c.in-Some.is)

pub returns-then-not-self-clause-reason : goal.returns-then-not-self-clause-reason
unfolding Represents live_at
returns-then-not-self-clause-reason c =
    let meaning = c.at-tariff.result.now.meaning in
    let valid = c.at-tariff.ensures.meaning in
    let class : c.class_of.result
    ≡ class_of (meaning_at c.args.table.now c.args.tap.moment) c.args.token.now =
    rw valid at c.class_of.ensures.class in
    λ taps holds. c.next_reason-first.ensures
    ∙ why_ride (rules_of c.args.table.now c.args.token.now) (kept_of c.args.self.now) taps
    c.args.tap c.in-Some.mode _ _ _ holds c.in-Some.is
    (until_same c.args.table.now c.args.token.now c.args.clock.now meaning c.args.tap.moment
    c.requires.clock valid)
    (gives_none-fresh _ _ c.args.tap c.in-Some.mode (kept-fresh _ c.if-not-self.true))
    (terms_same c.args.table.now c.args.token.now meaning c.args.tap.moment c.class_of.result
    c.in-Some.mode valid class ∙ sym c.ride_terms-terms.ensures.terms)
    c.ride_terms-terms.ensures.bounds
    (c.opened.ensures ∙ at_fresh _ _ _ (kept-fresh _ c.if-not-self.true))

is_first_ride : (c : After-first_ride) (taps : List TapIn)
    → Represents (rules_of c.args.table.now c.args.token.now) c.args.self.now taps
    → IsStep (rules_of c.args.table.now c.args.token.now) taps c.args.tap c.first_ride.result
    (kept_of c.first_ride.new.self)
unfolding Represents live_at
is_first_ride c taps holds =
    let meaning = c.at-tariff.result.now.meaning in
    let valid = c.at-tariff.ensures.meaning in
    let class : c.first_ride.new.self.class
    ≡ class_of (meaning_at c.args.table.now c.args.tap.moment) c.args.token.now =
    rw valid at c.first_ride.ensures.class in
    first_ride (rules_of c.args.table.now c.args.token.now) (kept_of c.args.self.now) _ taps
    c.args.tap c.in-Some.mode _ _ _ _ (kept-fresh _ c.if-not-self.true) holds c.in-Some.is
    (listed c.args.table.now c.args.token.now c.in-Some.mode (c.requires.mode _ c.in-Some.is))
    (until_same c.args.table.now c.args.token.now c.args.clock.now meaning c.args.tap.moment
    c.requires.clock valid)
    (class_at c.args.table.now c.args.token.now c.args.tap.moment c.first_ride.new.self.class class
    (rw valid at c.first_ride.ensures.there))
    (terms_same c.args.table.now c.args.token.now meaning c.args.tap.moment
    c.first_ride.new.self.class c.in-Some.mode valid class) c.first_ride.ensures.bounds
    c.first_ride.ensures.reply c.first_ride.ensures.state

pub returns-then-not-self-clause-holds : goal.returns-then-not-self-clause-holds
unfolding Represents
returns-then-not-self-clause-holds c = λ taps holds. (is_first_ride c taps holds).holds

pub returns-then-not-self-clause-some : goal.returns-then-not-self-clause-some
unfolding RepresentsSome
returns-then-not-self-clause-some c = (
  c.requires.holds.0 ++ c.args.tap ∷ [],
  returns-then-not-self-clause-holds c c.requires.holds.0 c.requires.holds.1,
)

-- the tap is not later than the last

pub returns-then-tap-self-clause-reason : goal.returns-then-tap-self-clause-reason
unfolding Represents live_at
returns-then-tap-self-clause-reason c =
    λ taps holds. why_stale _ _ _ taps c.args.tap _ (kept-open _ c.if-not-self.false) holds
    c.in-Some.is c.if-tap-self.true

pub returns-then-tap-self-clause-holds : goal.returns-then-tap-self-clause-holds
unfolding Represents live_at
returns-then-tap-self-clause-holds c =
    λ taps holds. holds-open _ _ _ c.if-not-self.false
    (stale _ _ _ taps c.args.tap _ (kept-open _ c.if-not-self.false) holds c.in-Some.is
    c.if-tap-self.true).holds

-- the class of the tap

pub class_at-self-requires : goal.class_at-self-requires
unfolding RepresentsSome
class_at-self-requires c = record {
  token = c.requires.token;
  order = omega arith;
  class = class_is c.args.table.now c.args.token.now c.args.self.now c.requires.holds.0
      c.if-not-self.false c.requires.holds.1;
  there = class_there c.args.table.now c.args.token.now c.args.self.now c.requires.holds.0
      c.if-not-self.false c.requires.holds.1;
}

-- the last tap gives a transfer

pub gives_transfer-requires-clause-class : goal.gives_transfer-requires-clause-class
gives_transfer-requires-clause-class c =
    rw c.at-tariff-2.ensures.meaning c.class_at-self.ensures.there

pub gives_transfer-requires-clause-from : goal.gives_transfer-requires-clause-from
unfolding RepresentsSome Represents kept_trip rules_of live_at
gives_transfer-requires-clause-from c =
    rw c.at-tariff-2.ensures.modes
    ((at_state (rules_of c.args.table.now c.args.token.now) (kept_of c.args.self.now)
    (kept_numbers c.args.self.now) c.requires.holds.0
    (kept-open c.args.self.now c.if-not-self.false) c.requires.holds.1).mode _ refl)

pub gives_transfer-requires-clause-order : goal.gives_transfer-requires-clause-order
unfolding RepresentsSome
gives_transfer-requires-clause-order c =
    let before : c.args.self.now.ride ≤ c.args.self.now.last =
    trip_order _ c.args.self.now c.requires.holds.0 c.if-not-self.false c.requires.holds.1 in
    omega arith

pub gives_transfer-requires-clause-mode : goal.gives_transfer-requires-clause-mode
gives_transfer-requires-clause-mode c =
    rw c.at-tariff-2.ensures.modes (c.requires.mode _ c.in-Some.is)

is_transfer : (c : After-take_transfer) (taps : List TapIn)
    → Represents (rules_of c.args.table.now c.args.token.now) c.args.self.now taps
    → IsStep (rules_of c.args.table.now c.args.token.now) taps c.args.tap (reply_with Transfer 0)
    (Some (kept_numbers c.take_transfer.new.self))
unfolding Represents live_at rules_of kept_trip
is_transfer c taps holds =
    transfer (rules_of c.args.table.now c.args.token.now) _ _ _ taps c.args.tap c.in-Some.mode
    c.class_at-self.result (kept-open _ c.if-not-self.false) holds c.in-Some.is
    (listed c.args.table.now c.args.token.now c.in-Some.mode (c.requires.mode _ c.in-Some.is))
    c.if-tap-self.false
    (gives_same c.args.table.now c.args.token.now c.at-tariff-2.result.now.meaning
    c.args.tap.moment c.class_at-self.result c.in-Some.mode
    (kept_trip (Some (kept_numbers c.args.self.now))) c.gives_transfer.result
    c.at-tariff-2.ensures.meaning c.class_at-self.ensures.class c.gives_transfer.ensures.gives
    ∙ c.if-gives_transfer.true)
    (class_at c.args.table.now c.args.token.now c.args.tap.moment c.class_at-self.result
    c.class_at-self.ensures.class c.class_at-self.ensures.there) c.take_transfer.ensures.state

pub returns-then-gives_transfer-clause-reason : goal.returns-then-gives_transfer-clause-reason
unfolding rules_of Represents live_at kept_trip
returns-then-gives_transfer-clause-reason c =
    λ taps holds. c.given-given.ensures
    ∙ why_transfer (rules_of c.args.table.now c.args.token.now) _ _ taps c.args.tap c.in-Some.mode
    (kept-open _ c.if-not-self.false) holds c.in-Some.is c.if-tap-self.false
    (gives_same c.args.table.now c.args.token.now c.at-tariff-2.result.now.meaning
    c.args.tap.moment c.class_at-self.result c.in-Some.mode
    (kept_trip (Some (kept_numbers c.args.self.now))) c.gives_transfer.result
    c.at-tariff-2.ensures.meaning c.class_at-self.ensures.class c.gives_transfer.ensures.gives
    ∙ c.if-gives_transfer.true)

pub returns-then-gives_transfer-clause-holds : goal.returns-then-gives_transfer-clause-holds
returns-then-gives_transfer-clause-holds c =
    λ taps holds. holds-open _ _ _ (c.take_transfer.ensures.has_window ∙ c.if-not-self.false)
    (is_transfer c taps holds).holds

pub returns-then-gives_transfer-clause-some : goal.returns-then-gives_transfer-clause-some
unfolding RepresentsSome
returns-then-gives_transfer-clause-some c = (
  c.requires.holds.0 ++ c.args.tap ∷ [],
  returns-then-gives_transfer-clause-holds c c.requires.holds.0 c.requires.holds.1,
)

-- the tap is a later ride

pub explain_ride-requires-clause-class : goal.explain_ride-requires-clause-class
explain_ride-requires-clause-class c =
    rw c.at-tariff-2.ensures.meaning c.class_at-self.ensures.there

pub explain_ride-requires-clause-mode : goal.explain_ride-requires-clause-mode
explain_ride-requires-clause-mode c =
    rw c.at-tariff-2.ensures.modes (c.requires.mode _ c.in-Some.is)

pub explain_ride-requires-clause-room : goal.explain_ride-requires-clause-room
unfolding RepresentsSome Represents
explain_ride-requires-clause-room c =
    kept_room _ (kept_of c.args.self.now) _ c.requires.holds.0 (kept-open _ c.if-not-self.false)
    c.requires.holds.1

pub returns-clause-reason : goal.returns-clause-reason
unfolding rules_of Represents live_at kept_trip
returns-clause-reason c =
    let meaning = c.at-tariff-2.result.now.meaning in
    let valid = c.at-tariff-2.ensures.meaning in
    λ taps holds.
    c.explain_ride.ensures.reason
    ∙ why_ride (rules_of c.args.table.now c.args.token.now) (kept_of c.args.self.now) taps
    c.args.tap c.in-Some.mode _ _ _ holds c.in-Some.is
    (until_same c.args.table.now c.args.token.now c.args.clock.now meaning c.args.tap.moment
    c.requires.clock valid)
    (gives_none-state _ _ _ c.args.tap _ (kept-open _ c.if-not-self.false) c.if-tap-self.false
    (gives_same c.args.table.now c.args.token.now c.at-tariff-2.result.now.meaning
    c.args.tap.moment c.class_at-self.result c.in-Some.mode
    (kept_trip (Some (kept_numbers c.args.self.now))) c.gives_transfer.result
    c.at-tariff-2.ensures.meaning c.class_at-self.ensures.class c.gives_transfer.ensures.gives
    ∙ c.if-gives_transfer.false))
    (terms_same c.args.table.now c.args.token.now meaning c.args.tap.moment c.class_at-self.result
    c.in-Some.mode valid c.class_at-self.ensures.class) c.explain_ride.ensures.bounds
    (at_kept _ _ _ _ (kept-open _ c.if-not-self.false))

next_window : (c : After-explain_ride) → Window
next_window c = window_at (Some c.args.self.now.window) c.args.tap.moment
    (window_end_in c.args.clock.now c.at-tariff-2.result.now.meaning.window c.args.tap.moment)

is_next_ride : (c : After-explain_ride) (taps : List TapIn)
    → Represents (rules_of c.args.table.now c.args.token.now) c.args.self.now taps
    → IsStep (rules_of c.args.table.now c.args.token.now) taps c.args.tap
    (ride_reply (paid_by (charge (ride_terms c.at-tariff-2.result.now.meaning
    c.class_at-self.result c.in-Some.mode.position)
    (next_window c).rides (next_window c).cents)))
    (Some (kept_numbers c.explain_ride.new.self))
unfolding rules_of Represents next_window live_at kept_trip
is_next_ride c taps holds =
    let meaning = c.at-tariff-2.result.now.meaning in
    let valid = c.at-tariff-2.ensures.meaning in
    next_ride (rules_of c.args.table.now c.args.token.now) (kept_of c.args.self.now) _ _ taps
    c.args.tap c.in-Some.mode _ c.class_at-self.result _ (kept-open _ c.if-not-self.false) holds
    c.in-Some.is
    (listed c.args.table.now c.args.token.now c.in-Some.mode (c.requires.mode _ c.in-Some.is))
    (until_same c.args.table.now c.args.token.now c.args.clock.now meaning c.args.tap.moment
    c.requires.clock valid)
    (gives_none-state _ _ _ c.args.tap _ (kept-open _ c.if-not-self.false) c.if-tap-self.false
    (gives_same c.args.table.now c.args.token.now c.at-tariff-2.result.now.meaning
    c.args.tap.moment c.class_at-self.result c.in-Some.mode
    (kept_trip (Some (kept_numbers c.args.self.now))) c.gives_transfer.result
    c.at-tariff-2.ensures.meaning c.class_at-self.ensures.class c.gives_transfer.ensures.gives
    ∙ c.if-gives_transfer.false))
    (class_at c.args.table.now c.args.token.now c.args.tap.moment c.class_at-self.result
    c.class_at-self.ensures.class c.class_at-self.ensures.there)
    (terms_same c.args.table.now c.args.token.now meaning c.args.tap.moment c.class_at-self.result
    c.in-Some.mode valid c.class_at-self.ensures.class) c.explain_ride.ensures.bounds
    c.explain_ride.ensures.state

pub returns-clause-holds : goal.returns-clause-holds
returns-clause-holds c =
    λ taps holds. holds-open _ _ _ (c.explain_ride.ensures.has_window
    ∙ c.if-not-self.false) (is_next_ride c taps holds).holds

pub returns-clause-some : goal.returns-clause-some
unfolding RepresentsSome
returns-clause-some c = (
  c.requires.holds.0 ++ c.args.tap ∷ [],
  returns-clause-holds c c.requires.holds.0 c.requires.holds.1,
)

-- no reply costs more than the greatest fare

pub returns-in_default-clause-few : goal.returns-in_default-clause-few
unfolding reply_with
returns-in_default-clause-few c = omega arith

pub returns-then-not-self-clause-few : goal.returns-then-not-self-clause-few
returns-then-not-self-clause-few c =
    ride_reason-few _ _ _ c.ride_terms-terms.ensures.bounds c.next_reason-first.ensures

pub returns-then-tap-self-clause-few : goal.returns-then-tap-self-clause-few
unfolding reply_with
returns-then-tap-self-clause-few c = omega arith

pub returns-then-gives_transfer-clause-few : goal.returns-then-gives_transfer-clause-few
returns-then-gives_transfer-clause-few c = given-few _ _ c.given-given.ensures

pub returns-clause-few : goal.returns-clause-few
returns-clause-few c =
    ride_reason-few _ _ _ c.explain_ride.ensures.bounds c.explain_ride.ensures.reason
