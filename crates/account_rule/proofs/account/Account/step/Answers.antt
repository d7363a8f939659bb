-- Each way out of the step is one of the rule's cases: unknown, at a later tariff, the first ride,
-- stale, a transfer or a later ride.
use Rattle.std.proofs.Common.{◌≡◌, ◌<◌, ◌≤◌, List, [], ◌∷◌, ◌++◌, Some, arith, refl, sym, ◌∙◌}
use Rattle.std.proofs.Common.{length, subst}
use Rattle.account_rule.proofs.FareLemmas.{free-few, ride-few}
use Rattle.account_rule.proofs.StepLemmas.{IsStep, at_state, class_is, class_there, first_ride_is}
use Rattle.account_rule.proofs.StepLemmas.{kept-fresh, kept-open, kept_room, live_tap_is, stale}
use Rattle.account_rule.proofs.StepLemmas.{holds-open, tap_is, trip_order, unknown}
use Rattle.account_rule.proofs.account.Account.step.Goals.{After-first_ride, After-live_step}
use Rattle.account_rule.specs.{Kept.kept_numbers, Kept.kept_of, Kept.kept_trip, Replies.reply}
use Rattle.account_rule.specs.{Represents.RepresentsSome, Represents.Represents, Taps.live_at}
use Rattle.account_rule.specs.{TokenRules.rules_of, declared.tap.TapIn.TapIn}
use Rattle.tariffs.specs.Fares.{class_of, meaning_at}
use Rattle.account_rule.proofs.account.Account.step.Goals as goal

-- the tap's validator is not known

pub returns-in_default-clause-reply : goal.returns-in_default-clause-reply
unfolding Represents
returns-in_default-clause-reply c =
    λ taps holds. c.free.ensures
    ∙ (unknown _ (kept_of c.args.self.now) taps c.args.tap holds c.in_default.is).reply

pub returns-in_default-clause-holds : goal.returns-in_default-clause-holds
unfolding Represents
returns-in_default-clause-holds c =
    λ taps holds. (unknown _ (kept_of c.args.self.now) taps c.args.tap holds
    c.in_default.is).holds

-- a later tariff is valid

pub returns-then-not-is_first_at-clause-reply : goal.returns-then-not-is_first_at-clause-reply
returns-then-not-is_first_at-clause-reply c =
    λ taps holds. subst (λ (t : TapIn). c.later_step.result
    ≡ reply (rules_of c.args.table.now c.args.token.now) taps t)
    (tap_is c.args.tap c.in-Some.mode c.in-Some.is) (c.later_step.ensures.reply taps holds)

pub returns-then-not-is_first_at-clause-holds : goal.returns-then-not-is_first_at-clause-holds
returns-then-not-is_first_at-clause-holds c =
    λ taps holds. subst (λ (t : TapIn). Represents (rules_of c.args.table.now c.args.token.now)
    c.later_step.new.self (taps ++ t ∷ []))
    (tap_is c.args.tap c.in-Some.mode c.in-Some.is) (c.later_step.ensures.holds taps holds)

pub returns-then-not-is_first_at-clause-some : goal.returns-then-not-is_first_at-clause-some
unfolding RepresentsSome
returns-then-not-is_first_at-clause-some c = (
  c.requires.holds.0 ++ c.args.tap ∷ [],
  returns-then-not-is_first_at-clause-holds c c.requires.holds.0 c.requires.holds.1,
)

-- the tap is the first ride

pub first_ride-requires-clause-mode : goal.first_ride-requires-clause-mode
first_ride-requires-clause-mode c =
    rw c.first.ensures (c.requires.mode _ c.in-Some.is)

is_first_ride : (c : After-first_ride) (taps : List TapIn)
    → Represents (rules_of c.args.table.now c.args.token.now) c.args.self.now taps
    → IsStep (rules_of c.args.table.now c.args.token.now) taps c.args.tap c.first_ride.result
    (kept_of c.first_ride.new.self)
unfolding Represents live_at
is_first_ride c taps holds =
    first_ride_is c.args.table.now c.args.token.now c.args.clock.now (kept_of c.args.self.now) _
    taps
    c.args.tap c.in-Some.mode c.first.result.now.meaning _ _
    (kept-fresh _ c.if-not-self.true) holds c.in-Some.is (c.requires.mode _ c.in-Some.is)
    c.requires.clock
    (c.first.ensures
    ∙ sym (c.is_first_at.ensures c.if-not-is_first_at.false c.args.tap.moment (omega arith)))
    c.first_ride.ensures.class c.first_ride.ensures.there c.first_ride.ensures.bounds
    c.first_ride.ensures.reply c.first_ride.ensures.state

pub returns-then-not-self-clause-reply : goal.returns-then-not-self-clause-reply
returns-then-not-self-clause-reply c = λ taps holds. (is_first_ride c taps holds).reply

pub returns-then-not-self-clause-holds : goal.returns-then-not-self-clause-holds
unfolding Represents
returns-then-not-self-clause-holds c = λ taps holds. (is_first_ride c taps holds).holds

pub returns-then-not-self-clause-some : goal.returns-then-not-self-clause-some
unfolding RepresentsSome
returns-then-not-self-clause-some c = (
  c.requires.holds.0 ++ c.args.tap ∷ [],
  returns-then-not-self-clause-holds c c.requires.holds.0 c.requires.holds.1,
)

-- the tap is not later than the last

pub returns-then-tap-self-clause-reply : goal.returns-then-tap-self-clause-reply
unfolding Represents live_at
returns-then-tap-self-clause-reply c =
    λ taps holds. c.free-then-tap-self.ensures
    ∙ (stale _ _ _ taps c.args.tap _ (kept-open _ c.if-not-self.false) holds c.in-Some.is
    c.if-tap-self.true).reply

pub returns-then-tap-self-clause-holds : goal.returns-then-tap-self-clause-holds
unfolding Represents live_at
returns-then-tap-self-clause-holds c =
    λ taps holds. holds-open _ _ _ c.if-not-self.false
    (stale _ _ _ taps c.args.tap _ (kept-open _ c.if-not-self.false) holds c.in-Some.is
    c.if-tap-self.true).holds

-- the tap is a transfer or a later ride: the kept class is the first tariff's, as at the last live
-- tap

pub live_step-requires-clause-class : goal.live_step-requires-clause-class
unfolding RepresentsSome
live_step-requires-clause-class c =
    let same : meaning_at c.args.table.now c.args.self.now.last ≡ c.args.table.now.meaning =
    c.is_first_at.ensures c.if-not-is_first_at.false c.args.self.now.last (omega arith) in
    rw (c.first-2.ensures, ← same) (class_there c.args.table.now c.args.token.now c.args.self.now
    c.requires.holds.0 c.if-not-self.false c.requires.holds.1)

pub live_step-requires-clause-from : goal.live_step-requires-clause-from
unfolding RepresentsSome Represents kept_trip rules_of live_at
live_step-requires-clause-from c =
    rw c.first-2.ensures
    ((at_state (rules_of c.args.table.now c.args.token.now) (kept_of c.args.self.now)
    (kept_numbers c.args.self.now) c.requires.holds.0
    (kept-open c.args.self.now c.if-not-self.false) c.requires.holds.1).mode _ refl)

pub live_step-requires-clause-mode : goal.live_step-requires-clause-mode
live_step-requires-clause-mode c = rw c.first-2.ensures (c.requires.mode _ c.in-Some.is)

pub live_step-requires-clause-order : goal.live_step-requires-clause-order
unfolding RepresentsSome
live_step-requires-clause-order c =
    let before : c.args.self.now.ride ≤ c.args.self.now.last =
    trip_order _ c.args.self.now c.requires.holds.0 c.if-not-self.false c.requires.holds.1 in
    omega arith

pub live_step-requires-clause-room : goal.live_step-requires-clause-room
unfolding RepresentsSome Represents
live_step-requires-clause-room c =
    kept_room _ (kept_of c.args.self.now) _ c.requires.holds.0 (kept-open _ c.if-not-self.false)
    c.requires.holds.1

is_live : (c : After-live_step) (taps : List TapIn)
    → Represents (rules_of c.args.table.now c.args.token.now) c.args.self.now taps
    → IsStep (rules_of c.args.table.now c.args.token.now) taps c.args.tap c.live_step.result
    (Some (kept_numbers c.live_step.new.self))
unfolding Represents live_at
is_live c taps holds =
    let now : meaning_at c.args.table.now c.args.tap.moment ≡ c.args.table.now.meaning =
    c.is_first_at.ensures c.if-not-is_first_at.false c.args.tap.moment (omega arith) in
    let same : meaning_at c.args.table.now c.args.self.now.last
    ≡ meaning_at c.args.table.now c.args.tap.moment =
    c.is_first_at.ensures c.if-not-is_first_at.false c.args.self.now.last (omega arith) ∙ sym now in
    let class : c.args.self.now.class
    ≡ class_of (meaning_at c.args.table.now c.args.tap.moment) c.args.token.now =
    rw same at (class_is c.args.table.now c.args.token.now c.args.self.now taps c.if-not-self.false
    holds) in
    let there : c.args.self.now.class
    < length (meaning_at c.args.table.now c.args.tap.moment).classes =
    rw same at (class_there c.args.table.now c.args.token.now c.args.self.now taps
    c.if-not-self.false holds) in
    live_tap_is c.args.table.now c.args.token.now c.args.clock.now (kept_of c.args.self.now)
    (kept_numbers c.args.self.now) _ taps c.args.tap c.in-Some.mode c.first-2.result.now.meaning
    c.args.self.now.class _ (kept-open _ c.if-not-self.false) holds c.in-Some.is
    (c.requires.mode _ c.in-Some.is) c.if-tap-self.false c.requires.clock
    (c.first-2.ensures ∙ sym now) class there c.live_step.ensures.bounds c.live_step.ensures.reply
    c.live_step.ensures.state

pub returns-clause-reply : goal.returns-clause-reply
returns-clause-reply c = λ taps holds. (is_live c taps holds).reply

pub returns-clause-holds : goal.returns-clause-holds
returns-clause-holds c =
    λ taps holds. holds-open _ _ _ (c.live_step.ensures.has_window ∙ c.if-not-self.false)
    (is_live c taps holds).holds

pub returns-clause-some : goal.returns-clause-some
unfolding RepresentsSome
returns-clause-some c = (
  c.requires.holds.0 ++ c.args.tap ∷ [],
  returns-clause-holds c c.requires.holds.0 c.requires.holds.1,
)

-- no reply costs more than the greatest fare

pub returns-in_default-clause-few : goal.returns-in_default-clause-few
returns-in_default-clause-few c = free-few _ _ c.free.ensures

pub returns-then-not-self-clause-few : goal.returns-then-not-self-clause-few
returns-then-not-self-clause-few c =
    ride-few _ _ _ _ c.first_ride.ensures.bounds c.first_ride.ensures.reply

pub returns-then-tap-self-clause-few : goal.returns-then-tap-self-clause-few
returns-then-tap-self-clause-few c = free-few _ _ c.free-then-tap-self.ensures
