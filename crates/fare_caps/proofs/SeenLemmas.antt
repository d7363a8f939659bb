-- What one more tap makes of the states.
use Rattle.std.proofs.Common.{◌≡◌, ◌==◌, ℕ, true, false, List, [], ◌∷◌, ◌++◌, Option, Some, None}
use Rattle.std.proofs.Common.{refl, ap, ◌∙◌, inl, inr}
use Rattle.account_rule.specs.{Blocks.last_block, Taps.LiveTap, Taps.live_at, Taps.live_tap}
use Rattle.account_rule.specs.Trips.{continues, trips}
use Rattle.account_rule.specs.Windows.{charge, last_window, windows}
use Rattle.account_rule.specs.declared.reason.{Charge.Charge, Reason.Reason}
use Rattle.account_rule.specs.declared.{tap.TapIn.TapIn, window.WindowView.WindowView}
use Rattle.fare_caps.proofs.FoldLemmas.{after_dues-append}
use Rattle.fare_caps.proofs.NoCapsLemmas.{free-same, of_block, ride-block, ride_in}
use Rattle.fare_caps.proofs.{PriceLemmas.dues-push, RideLemmas.is_free, RideLemmas.is_of_live}
use Rattle.fare_caps.proofs.RideLemmas.{is_ride, is_transfer, tapped, trip-push, trip_before}
use Rattle.fare_caps.specs.CapStates.{CapStates, after_due, after_dues, after_ride, at_ride}
use Rattle.fare_caps.specs.CapStates.{no_rides, ride_charge, states, with_some_extra}
use Rattle.fare_caps.specs.CappedReplies.{capped_reason, capped_window, transfer_by}
use Rattle.fare_caps.specs.CappedReplies.{transfer_charge, under_caps}
use Rattle.fare_caps.specs.{Caps.CappedRules, Laws.without_caps, Prices.dues, Prices.extra}
use Rattle.fare_caps.specs.{Prices.transfer_due, inside.Seen.live_kind, inside.Seen.uncapped}
use Rattle.std.proofs.lemmas.Bool.{cases_Bool}
use Rattle.tariffs.specs.declared.mode.Mode.{Mode}
use Rattle.account_rule.specs.declared.reason.Reason.TheVariants as reason
use Rattle.account_rule.specs.Reasons as rule
use Rattle.fare_caps.specs.declared.capped_account.LiveKind.TheVariants as live
use Rattle.fare_caps.specs.declared.capped_reason.CappedReason.TheVariants as capped

-- ---- the states with one more tap

-- with one more ride
pub states-ride : (rules : CappedRules) (taps : List TapIn) (tap : TapIn) (shown : LiveTap)
    → live_tap taps tap ≡ Some shown
    → continues rules.rules.transfers (trip_before rules.rules taps) shown ≡ false
    → states rules (taps ++ tap ∷ []) ≡ after_ride rules (states rules taps) shown
unfolding states after_dues after_due
states-ride rules taps tap shown some apart =
    rw (dues-push rules taps tap shown some, apart, after_dues-append) refl

extra-states : (rules : CappedRules) (before : CapStates) (trip : List LiveTap) (shown : LiveTap)
    → after_dues rules before (transfer_due rules trip shown)
    ≡ with_some_extra rules shown (transfer_charge rules before trip shown) before
unfolding after_dues after_due transfer_due
extra-states rules before trip shown =
    elim (cases_Bool (extra rules trip shown == 0)) [
      | inl none ↦ rw none refl
      | inr some ↦ rw some refl
    ]

-- with one more transfer
pub states-transfer : (rules : CappedRules) (taps : List TapIn) (tap : TapIn) (shown : LiveTap)
    → live_tap taps tap ≡ Some shown
    → continues rules.rules.transfers (trip_before rules.rules taps) shown ≡ true
    → states rules (taps ++ tap ∷ [])
    ≡ with_some_extra rules shown
    (transfer_charge rules (states rules taps) (trip_before rules.rules taps) shown)
    (states rules taps)
unfolding states
states-transfer rules taps tap shown some joins =
    rw (dues-push rules taps tap shown some, joins, after_dues-append)
    (extra-states rules (after_dues rules (no_rides rules) (dues rules taps))
    (trip_before rules.rules taps) shown)

-- with one more tap that is not live
pub states-free : (rules : CappedRules) (taps : List TapIn) (tap : TapIn)
    → trips rules.rules (taps ++ tap ∷ []) ≡ trips rules.rules taps
    → states rules (taps ++ tap ∷ []) ≡ states rules taps
unfolding states dues
states-free rules taps tap same = rw same refl

-- ---- what a step sees

-- a tap that is not live
pub record IsFreeTap (rules : CappedRules) (taps : List TapIn) (tap : TapIn) : Type 0 where
  pub reason : capped_reason rules taps tap ≡ uncapped (rule.reason rules.rules taps tap)
  pub same : states rules (taps ++ tap ∷ []) ≡ states rules taps
  pub trip : trip_before rules.rules (taps ++ tap ∷ []) ≡ trip_before rules.rules taps

-- a tap that is a ride of this window
pub record IsRideSeen (rules : CappedRules) (taps : List TapIn) (tap : TapIn) (start until : ℕ)
    (mode : Mode) : Type 0 where
  pub reason : capped_reason rules taps tap
      ≡ capped.Ride start until (ride_charge rules (states rules taps) (live_at tap.moment mode))
  pub more : states rules (taps ++ tap ∷ [])
      ≡ after_ride rules (states rules taps) (live_at tap.moment mode)
  pub trip : trip_before rules.rules (taps ++ tap ∷ []) ≡ live_at tap.moment mode ∷ []

-- a tap that is a transfer, given by the ride at the moment
pub record IsTransferSeen (rules : CappedRules) (taps : List TapIn) (tap : TapIn) (moment : ℕ)
    (ride_mode mode : Mode) : Type 0 where
  pub ride : LiveTap
  pub given : List LiveTap
  pub before : trip_before rules.rules taps ≡ ride ∷ given
  pub reason : capped_reason rules taps tap
      ≡ transfer_by (states rules taps) moment ride_mode
      (transfer_charge rules (states rules taps) (ride ∷ given) (live_at tap.moment mode))
  pub more : states rules (taps ++ tap ∷ [])
      ≡ with_some_extra rules (live_at tap.moment mode)
      (transfer_charge rules (states rules taps) (ride ∷ given) (live_at tap.moment mode))
      (states rules taps)
  pub trip : trip_before rules.rules (taps ++ tap ∷ [])
      ≡ ride ∷ given ++ live_at tap.moment mode ∷ []

pub no-ride : (rules : CappedRules) (taps : List TapIn) (tap : TapIn)
    → live_kind (rule.reason rules.rules taps tap) tap.mode ≡ live.Free
    → IsFreeTap rules taps tap
unfolding capped_reason
no-ride rules taps tap none = elim (tapped rules.rules taps tap) [
  | is_free free same ↦ record {
    reason = free-same rules (states rules taps) (trip_before rules.rules taps) tap _ free;
    same = states-free rules taps tap same;
    trip = ap last_block same;
  }
  | is_transfer mode known shown joins first given is why ↦
      absurd (cc (none, ap (λ r. live_kind r tap.mode) why, known))
  | is_ride mode known shown apart why ↦
      let seen = ap (λ r. live_kind r tap.mode) (why ∙ ride-block rules.rules
      (last_block (windows rules.rules taps)) (live_at tap.moment mode)) in
      absurd (cc (none, seen, known))
]

free-kind : (one : Reason) (mode : Option Mode) → is_of_live one ≡ false
    → live_kind one mode ≡ live.Free
free-kind one None free = refl
free-kind reason.Unknown (Some mode) free = refl
free-kind (reason.Stale latest) (Some mode) free = refl
free-kind (reason.Transfer moment given) (Some mode) free = absurd (cc (free))
free-kind (reason.Ride start until charge) (Some mode) free = absurd (cc (free))

-- of a ride that is known
ride-seen : (rules : CappedRules) (before : CapStates) (trip : List LiveTap) (tap : TapIn)
    (mode : Mode) (one two start until : ℕ) (seen : Mode) (charge : Charge)
    → tap.mode ≡ Some mode
    → live_kind (reason.Ride one two charge) tap.mode ≡ live.Ride start until seen
    → (mode ≡ seen) × (under_caps rules before trip tap (reason.Ride one two charge)
    ≡ capped.Ride start until (ride_charge rules before (live_at tap.moment mode)))
ride-seen rules before trip tap mode one two start until seen charge known is =
    let same : live.Ride one two mode ≡ live.Ride start until seen = rw known at is in
    let first : one ≡ start = cc (same) in
    let second : two ≡ until = cc (same) in
    let third : mode ≡ seen = cc (same) in
    (third, rw (known, first, second) refl)

pub ride : (rules : CappedRules) (taps : List TapIn) (tap : TapIn) (start until : ℕ) (seen : Mode)
    → live_kind (rule.reason rules.rules taps tap) tap.mode ≡ live.Ride start until seen
    → IsRideSeen rules taps tap start until seen
unfolding capped_reason
ride rules taps tap start until seen is = elim (tapped rules.rules taps tap) [
  | is_free free same ↦ absurd (cc (free-kind _ tap.mode free, is))
  | is_transfer mode known shown joins first given before why ↦
      absurd (cc (is, ap (λ r. live_kind r tap.mode) why, known))
  | is_ride mode known shown apart why ↦
      let inside = at_ride (without_caps rules.rules) (live_at tap.moment mode)
      (of_block rules.rules (last_block (windows rules.rules taps))) in
      let because : rule.reason rules.rules taps tap
      ≡ ride_in rules.rules (live_at tap.moment mode) inside =
      why ∙ ride-block rules.rules (last_block (windows rules.rules taps))
      (live_at tap.moment mode) in
      let both = ride-seen rules (states rules taps) (trip_before rules.rules taps) tap mode
      inside.window.start inside.window.until start until seen
      (charge (rules.rules.terms (live_at tap.moment mode)) inside.rides inside.window.cents)
      known
      (rw because at is) in
      record {
        reason = rw because (rw (← both.0) both.1);
        more = rw (← both.0) (states-ride rules taps tap (live_at tap.moment mode) shown apart);
        trip = rw (← both.0) (rw (
          trip-push rules.rules taps tap (live_at tap.moment mode) shown,
          apart,
        ) refl);
      }
]

-- of a transfer that is known
transfer-seen : (mode : Option Mode) (on : Mode) (one : ℕ) (two : Mode) (moment : ℕ)
    (ride_mode seen : Mode)
    → mode ≡ Some on
    → live_kind (reason.Transfer one two) mode ≡ live.Transfer moment ride_mode seen
    → (one ≡ moment) × (two ≡ ride_mode) × (on ≡ seen)
transfer-seen mode on one two moment ride_mode seen known is =
    let same : live.Transfer one two on ≡ live.Transfer moment ride_mode seen = rw known at is in
    let first : one ≡ moment = cc (same) in
    let second : two ≡ ride_mode = cc (same) in
    let third : on ≡ seen = cc (same) in
    (first, second, third)

pub transfer : (rules : CappedRules) (taps : List TapIn) (tap : TapIn) (moment : ℕ)
    (ride_mode seen : Mode)
    → live_kind (rule.reason rules.rules taps tap) tap.mode ≡ live.Transfer moment ride_mode seen
    → IsTransferSeen rules taps tap moment ride_mode seen
unfolding capped_reason
transfer rules taps tap moment ride_mode seen is = elim (tapped rules.rules taps tap) [
  | is_free free same ↦ absurd (cc (free-kind _ tap.mode free, is))
  | is_transfer mode known shown joins first given before why ↦
      let same = transfer-seen tap.mode mode first.moment first.mode moment ride_mode seen known
      (rw why at is) in
      record {
        ride = first;
        given = given;
        before = before;
        reason = rw (why, known, before, ← same.0, ← same.1, ← same.2) refl;
        more =
            let more =
            states-transfer rules taps tap (live_at tap.moment mode) shown joins in
            rw (before, same.2) at more;
        trip =
            let trip = trip-push rules.rules taps tap (live_at tap.moment mode) shown in
            rw (joins, before, same.2) at trip;
      }
  | is_ride mode known shown apart why ↦
      let kind = ap (λ r. live_kind r tap.mode) (why ∙ ride-block rules.rules
      (last_block (windows rules.rules taps)) (live_at tap.moment mode)) in
      absurd (cc (is, kind, known))
]

-- ---- the last window
pub no-window : (rules : CappedRules) (taps : List TapIn) → last_window rules.rules taps ≡ None
    → None ≡ capped_window rules taps
unfolding capped_window
no-window rules taps none = rw none refl

pub some-window : (rules : CappedRules) (taps : List TapIn) (view : WindowView) (paid cents : ℕ)
    → last_window rules.rules taps ≡ Some view → paid ≡ (states rules taps).paid
    → cents ≡ (states rules taps).window.cents
    → Some (record { start = view.start; until = view.until; paid = paid; cents = cents })
    ≡ capped_window rules taps
unfolding capped_window
some-window rules taps view paid cents some paid-is cents-is = rw (some, paid-is, cents-is) refl
