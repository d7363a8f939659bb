-- The rides and the transfers add up to all replies.
use Rattle.std.proofs.Common.{◌≡◌, ℕ, ◌==◌, false, List, [], ◌∷◌, ◌++◌, Option, Some, None, refl}
use Rattle.std.proofs.Common.{ap, ◌+◌, ◌∙◌, inl, inr, arith, sum_by}
use Rattle.account_rule.specs.Blocks.{blocks_by, last_block}
use Rattle.account_rule.specs.{Replies.reply_with, Replies.ride_reply, Taps.LiveTap, Taps.live}
use Rattle.account_rule.specs.{Taps.live_after, Taps.live_at, Trips.trips, Windows.windows}
use Rattle.account_rule.specs.declared.reason.Charge.TheVariants.{CeilingCut, CeilingReached, Full}
use Rattle.account_rule.specs.declared.reason.{Charge.TheVariants.RideLimitReached, Reason.Reason}
use Rattle.account_rule.specs.declared.reply.Answer.{Answer, TheVariants.Transfer}
use Rattle.account_rule.specs.declared.{reply.Reply.Reply, tap.TapIn.TapIn}
use Rattle.fare_caps.proofs.{FoldLemmas.by_pushes, NoCapsLemmas.later-nothing}
use Rattle.fare_caps.proofs.{NoCapsLemmas.ride-block, PriceLemmas.dues-push, RideLemmas.is_free}
use Rattle.fare_caps.proofs.RideLemmas.{is_of_live, is_ride, is_transfer, tapped, trip_before}
use Rattle.fare_caps.specs.CapStates.{CapStates, after_due, after_dues, due_charge, extra_charge}
use Rattle.fare_caps.specs.CapStates.{no_rides, ride_charge, states}
use Rattle.fare_caps.specs.CapWindows.{Charged, charged, charged_after, with_charged}
use Rattle.fare_caps.specs.CappedReplies.{capped_reason, capped_replies, capped_replies_after}
use Rattle.fare_caps.specs.CappedReplies.{capped_reply, replied_by, transfer_by, transfer_charge}
use Rattle.fare_caps.specs.{CappedReplies.under_caps, Caps.CappedRules}
use Rattle.fare_caps.specs.Charges.{cap_cents, cap_paid}
use Rattle.fare_caps.specs.Prices.{Due, dues, extra, of_ride, of_transfer, transfer_due}
use Rattle.fare_caps.specs.declared.cap_charge.CapCharge.{CapCharge}
use Rattle.fare_caps.specs.declared.cap_charge.CapCharge.TheVariants.{ByWindow, CapCut, CapReached}
use Rattle.std.proofs.lemmas.Bool.{cases_Bool}
use Rattle.std.proofs.lemmas.List.Sums.{sum_by-append, sum_by-cons, sum_by_push}
use Rattle.tariffs.specs.declared.mode.Mode.{Mode}
use Rattle.account_rule.specs.declared.reason.Reason.TheVariants as reason

-- the cents of a charge, if there is one
abbrev pub some_cents : Option CapCharge → ℕ
some_cents None = 0
some_cents (Some charge) = cap_cents charge

-- the cents of all
abbrev pub cents_of : List Charged → ℕ
cents_of taps = sum_by (λ (one : Charged). one.cents) taps

with-append : (due : Due) (charge : Option CapCharge) (more rest : List Charged)
    → with_charged due charge (more ++ rest) ≡ with_charged due charge more ++ rest
with-append due None more rest = refl
with-append due (Some charge) more rest = refl

charged_after-append : (capped : CappedRules) (states : CapStates) (dues more : List Due)
    → charged_after capped states (dues ++ more)
    ≡ charged_after capped states dues
    ++ charged_after capped (after_dues capped states dues) more
unfolding charged_after after_dues
charged_after-append capped states [] more = refl
charged_after-append capped states (due ∷ dues) more =
    ap (λ rest. with_charged due (due_charge capped states due) rest)
    (charged_after-append capped (after_due capped states due) dues more)
    ∙ with-append due (due_charge capped states due) _ _

-- the cents of more taps
dues-cents : (capped : CappedRules) (states : CapStates) (dues more : List Due)
    → cents_of (charged_after capped states (dues ++ more))
    ≡ cents_of (charged_after capped states dues)
    + cents_of (charged_after capped (after_dues capped states dues) more)
dues-cents capped states dues more =
    ap cents_of (charged_after-append capped states dues more)
    ∙ sum_by-append (λ (one : Charged). one.cents) (charged_after capped states dues)
    (charged_after capped (after_dues capped states dues) more)

one-cents : (due : Due) (charge : Option CapCharge)
    → cents_of (with_charged due charge []) ≡ some_cents charge
one-cents due None = refl
one-cents due (Some charge) =
    sum_by-cons (λ (one : Charged). one.cents)
    (record { due = due; cents = cap_cents charge }) [] ∙ omega arith

ride-cents : (capped : CappedRules) (states : CapStates) (ride : LiveTap)
    → cents_of (charged_after capped states (of_ride ride ∷ []))
    ≡ cap_cents (ride_charge capped states ride)
unfolding charged_after due_charge
ride-cents capped states ride = one-cents (of_ride ride) (Some (ride_charge capped states ride))

transfer-cents : (capped : CappedRules) (states : CapStates) (trip : List LiveTap) (tap : LiveTap)
    → cents_of (charged_after capped states (transfer_due capped trip tap))
    ≡ some_cents (transfer_charge capped states trip tap)
unfolding charged_after due_charge transfer_due
transfer-cents capped states trip tap = elim (cases_Bool (extra capped trip tap == 0)) [
  | inl none ↦ rw none refl
  | inr some ↦ rw some
      (one-cents (of_transfer tap (extra capped trip tap))
      (extra_charge capped states tap (extra capped trip tap)))
]

replies-push : (capped : CappedRules) (taps : List TapIn) (tap : TapIn)
    → capped_replies capped (taps ++ tap ∷ [])
    ≡ capped_replies capped taps ++ capped_reply capped taps tap ∷ []
unfolding capped_replies_after
replies-push capped taps tap = later-nothing capped taps (tap ∷ [])

pub free-cents : (capped : CappedRules) (states : CapStates) (trip : List LiveTap) (tap : TapIn)
    (one : Reason)
    → is_of_live one ≡ false → (replied_by (under_caps capped states trip tap one)).cents ≡ 0
unfolding reply_with
free-cents capped states trip tap reason.Unknown free = refl
free-cents capped states trip tap (reason.Stale latest) free = refl
free-cents capped states trip tap (reason.Transfer moment mode) free = absurd (cc (free))
free-cents capped states trip tap (reason.Ride start until charge) free = absurd (cc (free))

-- the reply to a transfer
pub transfer-reply : (states : CapStates) (moment : ℕ) (mode : Mode) (charge : Option CapCharge)
    → replied_by (transfer_by states moment mode charge) ≡ reply_with Transfer (some_cents charge)
transfer-reply states moment mode None = refl
transfer-reply states moment mode (Some charge) = refl

-- the cents of a reply of these
pub cents-with : (answer : Answer) (cents : ℕ) → (reply_with answer cents).cents ≡ cents
unfolding reply_with
cents-with answer cents = refl

pub reply-cents : (one : CapCharge) → (ride_reply (cap_paid one)).cents ≡ cap_cents one
unfolding ride_reply reply_with
reply-cents (ByWindow (Full position cents)) = refl
reply-cents (ByWindow (CeilingCut position cents)) = refl
reply-cents (ByWindow (CeilingReached position)) = refl
reply-cents (ByWindow RideLimitReached) = refl
reply-cents (CapCut position cents cap) = refl
reply-cents (CapReached position cap) = refl

abbrev IsBill : CappedRules → List TapIn → Type 0
IsBill capped taps =
    cents_of (charged capped taps) ≡ sum_by (λ reply. reply.cents) (capped_replies capped taps)

no-bill : (capped : CappedRules) → IsBill capped []
unfolding charged charged_after dues trips live live_after blocks_by capped_replies
    capped_replies_after
no-bill capped = refl

-- what one more tap costs
abbrev IsCost : CappedRules → List TapIn → TapIn → Type 0
IsCost capped taps tap =
    cents_of (charged capped (taps ++ tap ∷ []))
    ≡ cents_of (charged capped taps) + (capped_reply capped taps tap).cents

one-cost : (capped : CappedRules) (taps : List TapIn) (tap : TapIn) → IsCost capped taps tap
unfolding charged capped_reply capped_reason states dues
one-cost capped taps tap = elim (tapped capped.rules taps tap) [
  | is_free free same ↦ rw same
      (omega (
        arith,
        free-cents capped (states capped taps) (trip_before capped.rules taps) tap _ free,
      ))
  | is_transfer mode known shown joins ride given before why ↦
      let trip = trip_before capped.rules taps in
      let charge = transfer_charge capped (states capped taps) trip (live_at tap.moment mode) in
      rw (
        dues-push capped taps tap (live_at tap.moment mode) shown,
        joins,
        why,
        known,
      )
      (omega (
        arith,
        dues-cents capped (no_rides capped) (dues capped taps)
            (transfer_due capped trip (live_at tap.moment mode)),
        transfer-cents capped (states capped taps) trip (live_at tap.moment mode),
        ap (λ (r : Reply). r.cents)
            (transfer-reply (states capped taps) ride.moment ride.mode charge)
            ∙ cents-with Transfer (some_cents charge),
      ))
  | is_ride mode known shown apart why ↦
      rw (
        dues-push capped taps tap (live_at tap.moment mode) shown,
        apart,
        why,
        ride-block capped.rules (last_block (windows capped.rules taps))
            (live_at tap.moment mode),
        known,
      )
      (omega (
        arith,
        dues-cents capped (no_rides capped) (dues capped taps)
            (of_ride (live_at tap.moment mode) ∷ []),
        ride-cents capped (states capped taps) (live_at tap.moment mode),
        reply-cents (ride_charge capped (states capped taps) (live_at tap.moment mode)),
      ))
]

one-bill : (capped : CappedRules) (taps : List TapIn) (tap : TapIn) → IsBill capped taps
    → IsBill capped (taps ++ tap ∷ [])
one-bill capped taps tap bill =
    rw (
      replies-push capped taps tap,
      sum_by_push (λ reply. reply.cents) (capped_replies capped taps)
          (capped_reply capped taps tap),
    ) (omega (arith, one-cost capped taps tap, bill))

pub rides-bill : (capped : CappedRules) (taps : List TapIn) → IsBill capped taps
rides-bill capped taps =
    by_pushes (IsBill capped) (no-bill capped) (one-bill capped) [] taps (no-bill capped)
