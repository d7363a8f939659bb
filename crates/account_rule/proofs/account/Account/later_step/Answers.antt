-- Each way out is one of the rule's cases: the first ride, stale, a transfer or a later ride.
use Rattle.std.proofs.Common.{◌≤◌, List, Some, arith, refl, ◌∙◌}
use Rattle.account_rule.proofs.FareLemmas.{free-few, ride-few}
use Rattle.account_rule.proofs.StepLemmas.{IsStep, at_state, class_is, class_there, first_ride_is}
use Rattle.account_rule.proofs.StepLemmas.{kept-fresh, kept-open, kept_room, live_tap_is, stale}
use Rattle.account_rule.proofs.StepLemmas.{holds-open, trip_order}
use Rattle.account_rule.proofs.account.Account.later_step.Goals.{After-first_ride, After-live_step}
use Rattle.account_rule.specs.Kept.{kept_numbers, kept_of, kept_trip}
use Rattle.account_rule.specs.{Represents.RepresentsSome, Represents.Represents, Taps.live_at}
use Rattle.account_rule.specs.{TokenRules.rules_of, declared.tap.TapIn.TapIn, inside.Kept.known_tap}
use Rattle.account_rule.proofs.account.Account.later_step.Goals as goal

-- the tap is the first ride

pub first_ride-requires-clause-mode : goal.first_ride-requires-clause-mode
first_ride-requires-clause-mode c = rw c.at.ensures.modes c.requires.mode

is_first_ride : (c : After-first_ride) (taps : List TapIn)
    → Represents (rules_of c.args.table.now c.args.token.now) c.args.self.now taps
    → IsStep (rules_of c.args.table.now c.args.token.now) taps
    (known_tap c.args.moment c.args.mode) c.first_ride.result (kept_of c.first_ride.new.self)
unfolding Represents live_at known_tap
is_first_ride c taps holds =
    first_ride_is c.args.table.now c.args.token.now c.args.clock.now (kept_of c.args.self.now) _
    taps
    (known_tap c.args.moment c.args.mode) c.args.mode c.at.result.now.meaning _ _
    (kept-fresh _ c.if-not-self.true) holds refl c.requires.mode c.requires.clock
    c.at.ensures.meaning c.first_ride.ensures.class c.first_ride.ensures.there
    c.first_ride.ensures.bounds c.first_ride.ensures.reply c.first_ride.ensures.state

pub returns-then-not-self-clause-reply : goal.returns-then-not-self-clause-reply
returns-then-not-self-clause-reply c = λ taps holds. (is_first_ride c taps holds).reply

pub returns-then-not-self-clause-holds : goal.returns-then-not-self-clause-holds
unfolding Represents
returns-then-not-self-clause-holds c = λ taps holds. (is_first_ride c taps holds).holds

-- the tap is not later than the last

pub returns-then-moment-self-clause-reply : goal.returns-then-moment-self-clause-reply
unfolding Represents live_at known_tap
returns-then-moment-self-clause-reply c =
    λ taps holds. c.free.ensures
    ∙ (stale _ _ _ taps (known_tap c.args.moment c.args.mode) c.args.mode
    (kept-open _ c.if-not-self.false) holds refl c.if-moment-self.true).reply

pub returns-then-moment-self-clause-holds : goal.returns-then-moment-self-clause-holds
unfolding Represents live_at known_tap
returns-then-moment-self-clause-holds c =
    λ taps holds. holds-open _ _ _ c.if-not-self.false
    (stale _ _ _ taps (known_tap c.args.moment c.args.mode) c.args.mode
    (kept-open _ c.if-not-self.false) holds refl c.if-moment-self.true).holds

-- the class of the tap

pub class_at-self-requires : goal.class_at-self-requires
unfolding RepresentsSome
class_at-self-requires c = record {
  token = c.requires.token;
  order = omega arith;
  class = class_is c.args.table.now c.args.token.now c.args.self.now c.requires.holds.0
      c.if-not-self.false c.requires.holds.1;
  there = class_there c.args.table.now c.args.token.now c.args.self.now c.requires.holds.0
      c.if-not-self.false c.requires.holds.1;
}

-- the tap is a transfer or a later ride

pub live_step-requires-clause-class : goal.live_step-requires-clause-class
live_step-requires-clause-class c = rw c.at-2.ensures.meaning c.class_at-self.ensures.there

pub live_step-requires-clause-from : goal.live_step-requires-clause-from
unfolding RepresentsSome Represents kept_trip rules_of live_at
live_step-requires-clause-from c =
    rw c.at-2.ensures.modes
    ((at_state (rules_of c.args.table.now c.args.token.now) (kept_of c.args.self.now)
    (kept_numbers c.args.self.now) c.requires.holds.0
    (kept-open c.args.self.now c.if-not-self.false) c.requires.holds.1).mode _ refl)

pub live_step-requires-clause-mode : goal.live_step-requires-clause-mode
live_step-requires-clause-mode c = rw c.at-2.ensures.modes c.requires.mode

pub live_step-requires-clause-order : goal.live_step-requires-clause-order
unfolding RepresentsSome
live_step-requires-clause-order c =
    let before : c.args.self.now.ride ≤ c.args.self.now.last =
    trip_order _ c.args.self.now c.requires.holds.0 c.if-not-self.false c.requires.holds.1 in
    omega arith

pub live_step-requires-clause-room : goal.live_step-requires-clause-room
unfolding RepresentsSome Represents
live_step-requires-clause-room c =
    kept_room _ (kept_of c.args.self.now) _ c.requires.holds.0 (kept-open _ c.if-not-self.false)
    c.requires.holds.1

is_live : (c : After-live_step) (taps : List TapIn)
    → Represents (rules_of c.args.table.now c.args.token.now) c.args.self.now taps
    → IsStep (rules_of c.args.table.now c.args.token.now) taps
    (known_tap c.args.moment c.args.mode) c.live_step.result
    (Some (kept_numbers c.live_step.new.self))
unfolding Represents kept_trip live_at known_tap
is_live c taps holds =
    live_tap_is c.args.table.now c.args.token.now c.args.clock.now (kept_of c.args.self.now)
    (kept_numbers c.args.self.now) _ taps (known_tap c.args.moment c.args.mode) c.args.mode
    c.at-2.result.now.meaning c.class_at-self.result _ (kept-open _ c.if-not-self.false) holds refl
    c.requires.mode c.if-moment-self.false c.requires.clock c.at-2.ensures.meaning
    c.class_at-self.ensures.class c.class_at-self.ensures.there c.live_step.ensures.bounds
    c.live_step.ensures.reply c.live_step.ensures.state

pub returns-clause-reply : goal.returns-clause-reply
returns-clause-reply c = λ taps holds. (is_live c taps holds).reply

pub returns-clause-holds : goal.returns-clause-holds
returns-clause-holds c =
    λ taps holds. holds-open _ _ _ (c.live_step.ensures.has_window ∙ c.if-not-self.false)
    (is_live c taps holds).holds

-- no reply costs more than the greatest fare

pub returns-then-not-self-clause-few : goal.returns-then-not-self-clause-few
returns-then-not-self-clause-few c =
    ride-few _ _ _ _ c.first_ride.ensures.bounds c.first_ride.ensures.reply

pub returns-then-moment-self-clause-few : goal.returns-then-moment-self-clause-few
returns-then-moment-self-clause-few c = free-few _ _ c.free.ensures
