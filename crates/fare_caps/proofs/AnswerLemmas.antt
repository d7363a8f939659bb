-- Caps and prices change no answer: they change what a ride or a transfer costs, and whether a ride
-- is paid or capped.
use Rattle.std.proofs.Common.{◌≡◌, ◌≤◌, ◌+◌, ◌==◌, ℕ, Bool, false, List, [], ◌∷◌, ◌++◌, Option}
use Rattle.std.proofs.Common.{Some, None, IfSome, arith, refl, sym, ap, ◌∙◌, inl, inr, count_by}
use Rattle.account_rule.proofs.{ReasonLemmas.reply-follows, ShareLemmas.is_ride-reply}
use Rattle.account_rule.specs.Blocks.{blocks_by, last_block}
use Rattle.account_rule.specs.Replies.{replies, replies_after, reply, reply_with, ride_reply}
use Rattle.account_rule.specs.{Taps.LiveTap, Taps.live, Taps.live_at, TokenRules.TokenRules}
use Rattle.account_rule.specs.{Trips.continues, Trips.last_tap, Trips.trips, Windows.charge}
use Rattle.account_rule.specs.{Windows.paid_by, Windows.windows, declared.reason.Reason.Reason}
use Rattle.account_rule.specs.declared.reply.Answer.{Answer, TheVariants.Capped}
use Rattle.account_rule.specs.declared.reply.Answer.TheVariants.{Paid, Stale, Transfer, Unknown}
use Rattle.account_rule.specs.declared.{reply.Reply.Reply, tap.TapIn.TapIn}
use Rattle.fare_caps.proofs.BillLemmas.{cents-with, free-cents, reply-cents, some_cents}
use Rattle.fare_caps.proofs.{BillLemmas.transfer-reply, LoweredLemmas.lowered-few}
use Rattle.fare_caps.proofs.NoCapsLemmas.{free-same, of_block, replied-none, ride-block}
use Rattle.fare_caps.proofs.{PriceLemmas.extra-is, PriceLemmas.price-low, RideLemmas.is_free}
use Rattle.fare_caps.proofs.RideLemmas.{is_of_live, is_ride, is_transfer, tapped, trip_before}
use Rattle.fare_caps.specs.CapStates.{CapStates, after_dues, at_ride, charge_at, extra_charge}
use Rattle.fare_caps.specs.CapStates.{extra_terms, no_rides, ride_charge, states}
use Rattle.fare_caps.specs.CappedReplies.{capped_reason, capped_replies, capped_replies_after}
use Rattle.fare_caps.specs.CappedReplies.{capped_reply, replied_by, ride_on, transfer_by}
use Rattle.fare_caps.specs.CappedReplies.{transfer_charge, under_caps}
use Rattle.fare_caps.specs.{Caps.CappedRules, Charges.cap_paid, Charges.least_from}
use Rattle.fare_caps.specs.Laws.{without_caps}
use Rattle.fare_caps.specs.Prices.{dues, extra, fare, pays_to, trip_dues, wanted}
use Rattle.fare_caps.specs.declared.cap_charge.CapCharge.{CapCharge}
use Rattle.fare_caps.specs.declared.capped_reason.CappedReason.{CappedReason}
use Rattle.std.proofs.lemmas.{Bool.cases_Bool, List.Sums.sum_by-cons}
use Rattle.std.specs.{List.flat_map, Option.option_and_then, Prelude.if◌then◌else◌}
use Rattle.tariffs.specs.{Prices.IsBoundedPays, Terms.AreBoundedTerms, declared.mode.Mode.Mode}
use Rattle.tariffs.specs.declared.price.Pays.{Pays, TheVariants.Difference, TheVariants.More}
use Rattle.account_rule.specs.declared.reason.Reason.TheVariants as reason
use Rattle.account_rule.specs.Laws as laws
use Rattle.account_rule.specs.Reasons as rule
use Rattle.fare_caps.specs.declared.capped_reason.CappedReason.TheVariants as capped

-- the reply is that without caps, or both are to a ride, or to a transfer
pub data Answered (rules : CappedRules) (taps : List TapIn) (tap : TapIn) : Type 0 where
  is_same : capped_reply rules taps tap ≡ reply rules.rules taps tap → Answered rules taps tap
  is_charged : (paid other : Option ℕ) → capped_reply rules taps tap ≡ ride_reply paid
      → reply rules.rules taps tap ≡ ride_reply other → Answered rules taps tap
  is_raised : (cents : ℕ) → capped_reply rules taps tap ≡ reply_with Transfer cents
      → reply rules.rules taps tap ≡ reply_with Transfer 0 → Answered rules taps tap

pub answered : (rules : CappedRules) (taps : List TapIn) (tap : TapIn) → Answered rules taps tap
unfolding capped_reply capped_reason
answered rules taps tap = elim (tapped rules.rules taps tap) [
  | is_free free same ↦ is_same
      (ap replied_by (free-same rules (states rules taps) (trip_before rules.rules taps) tap _ free)
      ∙ replied-none _ ∙ sym (reply-follows rules.rules taps tap))
  | is_transfer mode known shown joins ride given before why ↦
      let charge = transfer_charge rules (states rules taps) (trip_before rules.rules taps)
      (live_at tap.moment mode) in
      is_raised (some_cents charge)
      (rw (why, known) (transfer-reply (states rules taps) ride.moment ride.mode charge))
      (reply-follows rules.rules taps tap ∙ ap rule.replied_by why)
  | is_ride mode known shown apart why ↦
      let ride = live_at tap.moment mode in
      let inside = at_ride (without_caps rules.rules) ride
      (of_block rules.rules (last_block (windows rules.rules taps))) in
      let because = why
      ∙ ride-block rules.rules (last_block (windows rules.rules taps)) ride in
      is_charged (cap_paid (ride_charge rules (states rules taps) ride))
      (paid_by (charge (rules.rules.terms ride) inside.rides inside.window.cents))
      (rw (because, known) refl)
      (reply-follows rules.rules taps tap ∙ ap rule.replied_by because)
]

-- a transfer is not stale
transfer_not_stale : (cents : ℕ) → (reply_with Transfer cents).answer ≡ Stale → ⊥
unfolding reply_with
transfer_not_stale cents e = cc

pub ride_not_stale : (paid : Option ℕ) → (ride_reply paid).answer ≡ Stale → ⊥
unfolding ride_reply reply_with
ride_not_stale None e = cc
ride_not_stale (Some cents) e = cc

-- stale with caps exactly if without
pub stale-capped : (rules : CappedRules) (taps : List TapIn) (tap : TapIn)
    → (reply rules.rules taps tap).answer ≡ Stale → (capped_reply rules taps tap).answer ≡ Stale
stale-capped rules taps tap stale = elim (answered rules taps tap) [
  | is_same same ↦ ap (λ r. r.answer) same ∙ stale
  | is_charged paid other one two ↦
      absurd (ride_not_stale other (sym (ap (λ r. r.answer) two) ∙ stale))
  | is_raised cents one two ↦
      absurd (transfer_not_stale 0 (sym (ap (λ r. r.answer) two) ∙ stale))
]

pub capped-stale : (rules : CappedRules) (taps : List TapIn) (tap : TapIn)
    → (capped_reply rules taps tap).answer ≡ Stale → (reply rules.rules taps tap).answer ≡ Stale
capped-stale rules taps tap stale = elim (answered rules taps tap) [
  | is_same same ↦ sym (ap (λ r. r.answer) same) ∙ stale
  | is_charged paid other one two ↦
      absurd (ride_not_stale paid (sym (ap (λ r. r.answer) one) ∙ stale))
  | is_raised cents one two ↦
      absurd (transfer_not_stale cents (sym (ap (λ r. r.answer) one) ∙ stale))
]

-- the reply follows from the reason
pub capped-follows : (rules : CappedRules) (taps : List TapIn) (tap : TapIn)
    → capped_reply rules taps tap ≡ replied_by (capped_reason rules taps tap)
unfolding capped_reply
capped-follows rules taps tap = refl

ride-no-transfer : (rules : CappedRules) (before : CapStates) (start until moment : ℕ)
    (mode : Option Mode) (at : ℕ) (on : Mode)
    → ride_on rules before start until moment mode ≡ capped.Transfer at on → ⊥
ride-no-transfer rules before start until moment None at on is = cc
ride-no-transfer rules before start until moment (Some mode) at on is = cc

-- the ride that gives a transfer
abbrev giver : CappedReason → Option LiveTap
giver capped.Unknown = None
giver (capped.Stale latest) = None
giver (capped.Transfer moment mode) = Some (live_at moment mode)
giver (capped.PaidTransfer start until moment mode charge) = Some (live_at moment mode)
giver (capped.Ride start until charge) = None

giver-by : (states : CapStates) (moment : ℕ) (mode : Mode) (charge : Option CapCharge)
    → giver (transfer_by states moment mode charge) ≡ Some (live_at moment mode)
giver-by states moment mode None = refl
giver-by states moment mode (Some charge) = refl

giver-ride : (rules : CappedRules) (before : CapStates) (start until moment : ℕ)
    (mode : Option Mode) → giver (ride_on rules before start until moment mode) ≡ None
giver-ride rules before start until moment None = refl
giver-ride rules before start until moment (Some mode) = refl

same-giver : (one moment : ℕ) (on mode : Mode)
    → Some (live_at one on) ≡ Some (live_at moment mode) → (one ≡ moment) × (on ≡ mode)
unfolding live_at
same-giver one moment on mode is =
    let tap : live_at one on ≡ live_at moment mode = cc (is) in
    (ap (λ (t : LiveTap). t.moment) tap, ap (λ (t : LiveTap). t.mode) tap)

transfer-by : (rules : CappedRules) (before : CapStates) (trip : List LiveTap) (tap : TapIn)
    (one : Reason) (moment : ℕ) (mode : Mode)
    → giver (under_caps rules before trip tap one) ≡ Some (live_at moment mode)
    → one ≡ reason.Transfer moment mode
transfer-by rules before trip tap reason.Unknown moment mode is = absurd (cc (is))
transfer-by rules before trip tap (reason.Stale latest) moment mode is = absurd (cc (is))
transfer-by rules before trip tap (reason.Transfer at on) moment mode is =
    let same = same-giver at moment on mode (sym (giver-by before at on
    (option_and_then (λ m. transfer_charge rules before trip (live_at tap.moment m)) tap.mode))
    ∙ is) in
    rw (same.0, same.1) refl
transfer-by rules before trip tap (reason.Ride start until charge) moment mode is =
    let none = sym (giver-ride rules before start until tap.moment tap.mode) ∙ is in
    absurd (cc (none))

-- a transfer is one without caps
pub capped-transfer : (rules : CappedRules) (taps : List TapIn) (tap : TapIn) (moment : ℕ)
    (mode : Mode) → capped_reason rules taps tap ≡ capped.Transfer moment mode
    → rule.reason rules.rules taps tap ≡ reason.Transfer moment mode
unfolding capped_reason
capped-transfer rules taps tap moment mode is =
    transfer-by rules (states rules taps) (trip_before rules.rules taps) tap
    (rule.reason rules.rules taps tap) moment mode (ap giver is)

-- and so is one that costs something
pub capped-paid-transfer : (rules : CappedRules) (taps : List TapIn) (tap : TapIn)
    (start until moment : ℕ) (mode : Mode) (charge : CapCharge)
    → capped_reason rules taps tap ≡ capped.PaidTransfer start until moment mode charge
    → rule.reason rules.rules taps tap ≡ reason.Transfer moment mode
unfolding capped_reason
capped-paid-transfer rules taps tap start until moment mode charge is =
    transfer-by rules (states rules taps) (trip_before rules.rules taps) tap
    (rule.reason rules.rules taps tap) moment mode (ap giver is)

-- what pairs pay at the tap is within its bound
abbrev pub PaysFew : CappedRules → LiveTap → Type 0
PaysFew rules tap = (from : Mode) → IfSome (pays_to rules from tap) IsBoundedPays

wanted-few : (ride own : ℕ) (pays : Option Pays) → own ≤ 100_000 → IfSome pays IsBoundedPays
    → wanted ride own pays ≤ ride + 100_000
wanted-few ride own None few bound = omega arith
wanted-few ride own (Some (More cents)) few bound = omega (arith, bound)
wanted-few ride own (Some Difference) few bound = omega (arith, few)

extra-few : (rules : CappedRules) (ride : LiveTap) (given : List LiveTap) (tap : LiveTap)
    → AreBoundedTerms (rules.rules.terms tap) → PaysFew rules tap
    → extra rules (ride ∷ given) tap ≤ 100_000
extra-few rules ride given tap bounds few =
    omega (
      arith,
      extra-is rules ride given tap,
      price-low rules ride given,
      wanted-few (fare rules ride) (fare rules tap) (pays_to rules (last_tap ride given).mode tap)
          bounds.fare (few (last_tap ride given).mode),
    )

charge-few : (rules : CappedRules) (before : CapStates) (tap : LiveTap) (cents : ℕ)
    → AreBoundedTerms (rules.rules.terms tap) → cents ≤ 100_000
    → some_cents (extra_charge rules before tap cents) ≤ 100_000
unfolding extra_charge
charge-few rules before tap cents bounds few = elim (cases_Bool before.freed) [
  | inl freed ↦ rw freed (omega arith)
  | inr paid ↦ rw paid
      (lowered-few (least_from 0 None tap rules.caps before.caps)
      (extra_terms (rules.rules.terms tap) cents) 0 before.window.cents (record {
        fare = few;
        rides_low = omega arith;
        rides_high = omega arith;
        ceiling_low = bounds.ceiling_low;
        ceiling_high = bounds.ceiling_high;
      }))
]

transfer-few : (rules : CappedRules) (before : CapStates) (ride : LiveTap) (given : List LiveTap)
    (tap : LiveTap) → AreBoundedTerms (rules.rules.terms tap) → PaysFew rules tap
    → some_cents (transfer_charge rules before (ride ∷ given) tap) ≤ 100_000
transfer-few rules before ride given tap bounds few =
    elim (cases_Bool (extra rules (ride ∷ given) tap == 0)) [
      | inl none ↦ rw none (omega arith)
      | inr some ↦ rw some (charge-few rules before tap (extra rules (ride ∷ given) tap) bounds
          (extra-few rules ride given tap bounds few))
    ]

-- no reply costs more than a fare may
pub capped_most : (rules : CappedRules) (taps : List TapIn) (tap : TapIn)
    → ((mode : Mode) → tap.mode ≡ Some mode
    → AreBoundedTerms (rules.rules.terms (live_at tap.moment mode)))
    → ((mode : Mode) → tap.mode ≡ Some mode → PaysFew rules (live_at tap.moment mode))
    → (capped_reply rules taps tap).cents ≤ 100_000
unfolding capped_reply capped_reason ride_charge charge_at
capped_most rules taps tap bounds few = elim (tapped rules.rules taps tap) [
  | is_free free same ↦ omega (
    arith,
    free-cents rules (states rules taps) (trip_before rules.rules taps) tap _ free,
  )
  | is_transfer mode known shown joins ride given before why ↦
      let charge = transfer_charge rules (states rules taps) (ride ∷ given)
      (live_at tap.moment mode) in
      rw (why, known, before)
      (omega (
        arith,
        ap (λ (r : Reply). r.cents)
            (transfer-reply (states rules taps) ride.moment ride.mode charge)
            ∙ cents-with Transfer (some_cents charge),
        transfer-few rules (states rules taps) ride given (live_at tap.moment mode)
            (bounds mode known) (few mode known),
      ))
  | is_ride mode known shown apart why ↦
      let ride = live_at tap.moment mode in
      let because = why
      ∙ ride-block rules.rules (last_block (windows rules.rules taps)) ride in
      let inside = at_ride rules ride (states rules taps) in
      rw (because, known)
      (omega (
        arith,
        reply-cents (ride_charge rules (states rules taps) ride),
        lowered-few (least_from 0 None ride rules.caps inside.caps) (rules.rules.terms ride)
            inside.rides inside.window.cents (bounds mode known),
      ))
]

-- ---- what decides a reply
-- the reply under caps to a live tap on the mode, by the states and the last trip before it
abbrev live_under : CappedRules → CapStates → List LiveTap → LiveTap → Answer → Reply
live_under rules before trip tap Paid = ride_reply (cap_paid (ride_charge rules before tap))
live_under rules before trip tap Capped = ride_reply (cap_paid (ride_charge rules before tap))
live_under rules before trip tap Transfer =
    reply_with Transfer (some_cents (transfer_charge rules before trip tap))
live_under rules before trip tap Stale = reply_with Stale 0
live_under rules before trip tap Unknown = reply_with Unknown 0

-- the same, if the mode is known
abbrev mode_under : CappedRules → CapStates → List LiveTap → ℕ → Option Mode → Reply → Reply
mode_under rules before trip moment None replied = replied
mode_under rules before trip moment (Some mode) replied =
    live_under rules before trip (live_at moment mode) replied.answer

-- the reply under caps, by the states, the last trip and the reply without caps
abbrev pub under_reply : CappedRules → CapStates → List LiveTap → TapIn → Reply → Reply
under_reply rules before trip tap replied =
    mode_under rules before trip tap.moment tap.mode replied

free-under : (rules : CappedRules) (before : CapStates) (trip : List LiveTap) (moment : ℕ)
    (mode : Option Mode) (one : Reason) → is_of_live one ≡ false
    → mode_under rules before trip moment mode (rule.replied_by one) ≡ rule.replied_by one
unfolding reply_with
free-under rules before trip moment None one free = refl
free-under rules before trip moment (Some mode) reason.Unknown free = refl
free-under rules before trip moment (Some mode) (reason.Stale latest) free = refl
free-under rules before trip moment (Some mode) (reason.Transfer at on) free = absurd (cc (free))
free-under rules before trip moment (Some mode) (reason.Ride start until charge) free =
    absurd (cc (free))

ride-under : (rules : CappedRules) (before : CapStates) (trip : List LiveTap) (tap : LiveTap)
    (paid : Option ℕ)
    → live_under rules before trip tap (ride_reply paid).answer
    ≡ ride_reply (cap_paid (ride_charge rules before tap))
unfolding ride_reply reply_with
ride-under rules before trip tap None = refl
ride-under rules before trip tap (Some cents) = refl

transfer-under : (rules : CappedRules) (before : CapStates) (trip : List LiveTap) (tap : LiveTap)
    → live_under rules before trip tap (reply_with Transfer 0).answer
    ≡ reply_with Transfer (some_cents (transfer_charge rules before trip tap))
unfolding reply_with
transfer-under rules before trip tap = refl

pub reply-under : (rules : CappedRules) (taps : List TapIn) (tap : TapIn)
    → capped_reply rules taps tap
    ≡ under_reply rules (states rules taps) (trip_before rules.rules taps) tap
    (reply rules.rules taps tap)
unfolding capped_reply capped_reason
reply-under rules taps tap = elim (tapped rules.rules taps tap) [
  | is_free free same ↦
      rw (reply-follows rules.rules taps tap)
      (ap replied_by
      (free-same rules (states rules taps) (trip_before rules.rules taps) tap _ free)
      ∙ replied-none _
      ∙ sym (free-under rules (states rules taps) (trip_before rules.rules taps) tap.moment tap.mode
      _ free))
  | is_transfer mode known shown joins ride given before why ↦
      let charge = transfer_charge rules (states rules taps) (trip_before rules.rules taps)
      (live_at tap.moment mode) in
      rw (reply-follows rules.rules taps tap, why, known)
      (transfer-reply (states rules taps) ride.moment ride.mode charge
      ∙ sym (transfer-under rules (states rules taps) (trip_before rules.rules taps)
      (live_at tap.moment mode)))
  | is_ride mode known shown apart why ↦
      let because = why
      ∙ ride-block rules.rules (last_block (windows rules.rules taps)) (live_at tap.moment mode) in
      rw (reply-follows rules.rules taps tap, because, known)
      (sym (ride-under rules (states rules taps) (trip_before rules.rules taps)
      (live_at tap.moment mode) _))
]

-- the same live taps make the same last trip
pub trip-same : (rules : TokenRules) (one other : List TapIn) → live one ≡ live other
    → trip_before rules one ≡ trip_before rules other
unfolding trips
trip-same rules one other same =
    ap (λ (shown : List LiveTap). last_block (blocks_by (continues rules.transfers) shown)) same

-- the same live taps make the same states
pub states-same : (rules : CappedRules) (one other : List TapIn) → live one ≡ live other
    → states rules one ≡ states rules other
unfolding states dues trips
states-same rules one other same =
    ap (λ (shown : List LiveTap). after_dues rules (no_rides rules)
    (flat_map (trip_dues rules) (blocks_by (continues rules.rules.transfers) shown))) same

-- a transfer is no ride
no-ride : (cents : ℕ) → laws.is_ride (reply_with Transfer cents) ≡ false
unfolding reply_with
no-ride cents = refl

-- caps and prices change no number of rides
same-ride : (rules : CappedRules) (taps : List TapIn) (tap : TapIn)
    → laws.is_ride (capped_reply rules taps tap) ≡ laws.is_ride (reply rules.rules taps tap)
same-ride rules taps tap = elim (answered rules taps tap) [
  | is_same same ↦ ap laws.is_ride same
  | is_charged paid other one two ↦
      ap laws.is_ride one ∙ is_ride-reply paid ∙ sym (ap laws.is_ride two ∙ is_ride-reply other)
  | is_raised cents one two ↦
      ap laws.is_ride one ∙ no-ride cents ∙ sym (ap laws.is_ride two ∙ no-ride 0)
]

rides-after : (rules : CappedRules) (earlier taps : List TapIn)
    → count_by laws.is_ride (capped_replies_after rules earlier taps)
    ≡ count_by laws.is_ride (replies_after rules.rules earlier taps)
unfolding capped_replies_after replies_after
rides-after rules earlier [] = refl
rides-after rules earlier (tap ∷ taps) =
    let ride : Reply → ℕ = λ r. if laws.is_ride r then 1 else 0 in
    sum_by-cons ride (capped_reply rules earlier tap)
    (capped_replies_after rules (earlier ++ tap ∷ []) taps)
    ∙ ap (λ (b : Bool). (if b then 1 else 0)
    + count_by laws.is_ride (capped_replies_after rules (earlier ++ tap ∷ []) taps))
    (same-ride rules earlier tap)
    ∙ ap (λ (n : ℕ). ride (reply rules.rules earlier tap) + n)
    (rides-after rules (earlier ++ tap ∷ []) taps)
    ∙ sym (sum_by-cons ride (reply rules.rules earlier tap)
    (replies_after rules.rules (earlier ++ tap ∷ []) taps))

pub same-rides : (rules : CappedRules) (taps : List TapIn)
    → count_by laws.is_ride (capped_replies rules taps)
    ≡ count_by laws.is_ride (replies rules.rules taps)
unfolding capped_replies replies
same-rides rules taps = rides-after rules [] taps
