-- With no cap beside `window`, the states are the numbers of its last window.
use Rattle.std.proofs.Common.{◌≡◌, ℕ, ◌+◌, Bool, true, false, cond, List, [], ◌∷◌, ◌++◌, Option}
use Rattle.std.proofs.Common.{Some, None, refl, sym, ap, ◌∙◌, length, nat_lt, arith, append-nil}
use Rattle.std.proofs.Common.{append_assoc, option_map}
use Rattle.account_rule.proofs.BlockLemmas.{length-push}
use Rattle.account_rule.proofs.LimitLemmas.{cents-push, last_charge-push, paid-push}
use Rattle.account_rule.proofs.{ReasonLemmas.reply-follows, WindowLemmas.after_ride as after_window}
use Rattle.account_rule.specs.{Blocks.last_block, Replies.replies, Replies.replies_after}
use Rattle.account_rule.specs.{Replies.reply, Taps.LiveTap, Taps.live_at, TokenRules.TokenRules}
use Rattle.account_rule.specs.Windows.{charge, charges, charges_after, is_paid, is_within}
use Rattle.account_rule.specs.Windows.{last_window, paid_rides, shown_window, window_cents, windows}
use Rattle.account_rule.specs.declared.reason.Charge.{Charge}
use Rattle.account_rule.specs.declared.reason.Charge.TheVariants.{CeilingCut, CeilingReached, Full}
use Rattle.account_rule.specs.declared.reason.{Charge.TheVariants.RideLimitReached, Reason.Reason}
use Rattle.account_rule.specs.declared.{tap.TapIn.TapIn, window.WindowView.WindowView}
use Rattle.fare_caps.proofs.FoldLemmas.{fold-last, rides-alone}
use Rattle.fare_caps.proofs.{PriceLemmas.dues-free, PriceLemmas.extra-free, RideLemmas.is_of_live}
use Rattle.fare_caps.proofs.RideLemmas.{is_free, is_ride, is_transfer, tapped, trip_before}
use Rattle.fare_caps.specs.CapStates.{CapStates, after_ride, at_ride, charge_at, no_rides}
use Rattle.fare_caps.specs.CapStates.{ride_charge, states, with_charge}
use Rattle.fare_caps.specs.CappedReplies.{capped_reason, capped_replies, capped_replies_after}
use Rattle.fare_caps.specs.CappedReplies.{capped_reply, capped_window, replied_by, transfer_charge}
use Rattle.fare_caps.specs.{CappedReplies.under_caps, Caps.CapRules, Caps.CappedRules}
use Rattle.fare_caps.specs.Caps.{counted, each_window, no_window, opened, opened_until, window_cap}
use Rattle.fare_caps.specs.Charges.{is_freed_by, least_from, lowered}
use Rattle.fare_caps.specs.{Laws.without_caps, declared.cap_charge.CapCharge.TheVariants.ByWindow}
use Rattle.fare_caps.specs.inside.Seen.{uncapped}
use Rattle.std.proofs.lemmas.Bool.{le-ltb}
use Rattle.std.specs.List.{last_or}
use Rattle.tariffs.specs.declared.mode.Mode.{Mode}
use Rattle.account_rule.specs.declared.reason.Reason.TheVariants as reason
use Rattle.account_rule.specs.Reasons as rule

-- whether the limit of rides frees the ride of the charge, if there is one
abbrev freed_by : Option Charge → Bool
freed_by None = false
freed_by (Some charge) = is_freed_by charge

-- the states of rides that opened a window at a moment
abbrev numbers : TokenRules → ℕ → ℕ → List LiveTap → CapStates
numbers rules start until block = record {
  rides = length block;
  paid = paid_rides rules.terms block;
  window = record { start = start; until = until; cents = window_cents rules.terms block };
  caps = [];
  freed = freed_by (last_or None (charges rules.terms block));
}

-- the same, whether the limit of rides freed the last ride or not
abbrev freed_as : Bool → CapStates → CapStates
freed_as freed states = record states { freed = freed }

-- what a window says
unfoldable pub of_block : TokenRules → List LiveTap → CapStates
of_block rules [] = numbers rules 0 0 []
of_block rules (first ∷ block) =
    numbers rules first.moment (rules.until first.moment) (first ∷ block)

by-window : (one : Charge) → lowered None one ≡ ByWindow one
by-window (Full position cents) = refl
by-window (CeilingCut position cents) = refl
by-window (CeilingReached position) = refl
by-window RideLimitReached = refl

-- the charge in the states of a window that has begun
charge-numbers : (rules : TokenRules) (start until : ℕ) (block : List LiveTap) (freed : Bool)
    (ride : LiveTap)
    → charge_at (without_caps rules) ride (freed_as freed (numbers rules start until block))
    ≡ ByWindow (charge (rules.terms ride) (length block) (window_cents rules.terms block))
unfolding charge_at least_from
charge-numbers rules start until block freed ride = by-window _

-- one more ride of the window
numbers-push : (rules : TokenRules) (start until : ℕ) (block : List LiveTap) (freed : Bool)
    (ride : LiveTap)
    → with_charge (without_caps rules) ride
    (charge_at (without_caps rules) ride (freed_as freed (numbers rules start until block)))
    (freed_as freed (numbers rules start until block))
    ≡ numbers rules start until (block ++ ride ∷ [])
unfolding with_charge each_window counted window_cap is_paid
numbers-push rules start until block freed ride =
    let long : length (block ++ ride ∷ []) ≡ length block + 1 =
    omega (arith, length-push block ride) in
    rw (
      charge-numbers rules start until block freed ride,
      paid-push rules.terms block ride,
      cents-push rules.terms block ride,
      last_charge-push rules.terms block ride,
      long,
    ) refl

none-paid : (rules : TokenRules) → paid_rides rules.terms [] ≡ 0
unfolding paid_rides charges charges_after
none-paid rules = refl

none-charged : (rules : TokenRules) → charges rules.terms [] ≡ []
unfolding charges charges_after
none-charged rules = refl

none-cost : (rules : TokenRules) → window_cents rules.terms [] ≡ 0
unfolding window_cents charges charges_after
none-cost rules = refl

-- the states in which a ride is charged are those of its window before it
at_ride-block : (rules : TokenRules) (block : List LiveTap) (ride : LiveTap)
    → at_ride (without_caps rules) ride (of_block rules block)
    ≡ freed_as (of_block rules block).freed (cond (is_within rules.until block ride)
    (of_block rules block) (numbers rules ride.moment (rules.until ride.moment) []))
unfolding at_ride of_block opened opened_until window_cap each_window is_within
at_ride-block rules [] ride =
    let past : nat_lt ride.moment 0 ≡ false = le-ltb ride.moment 0 (omega arith) in
    rw (past, none-paid rules, none-cost rules) refl
at_ride-block rules (first ∷ block) ride =
    elim (nat_lt ride.moment (rules.until first.moment)) as (λ v. record {
      rides = cond v (length (first ∷ block)) 0;
      paid = cond v (paid_rides rules.terms (first ∷ block)) 0;
      window = cond v (record {
        start = first.moment;
        until = rules.until first.moment;
        cents = window_cents rules.terms (first ∷ block);
      }) (record { start = ride.moment; until = rules.until ride.moment; cents = 0 });
      caps = [];
      freed = (numbers rules first.moment (rules.until first.moment) (first ∷ block)).freed;
    } ≡ freed_as (numbers rules first.moment (rules.until first.moment) (first ∷ block)).freed
    (cond v (numbers rules first.moment (rules.until first.moment) (first ∷ block))
    (numbers rules ride.moment (rules.until ride.moment) []))) [
      | true ↦ refl
      | false ↦ rw (none-paid rules, none-cost rules) refl
    ]

-- the window with one more ride
after_ride-block : (rules : TokenRules) (block : List LiveTap) (ride : LiveTap)
    → after_ride (without_caps rules) (of_block rules block) ride
    ≡ of_block rules (after_window rules block ride)
unfolding after_ride ride_charge of_block is_within
after_ride-block rules [] ride =
    rw (at_ride-block rules [] ride)
    (numbers-push rules ride.moment (rules.until ride.moment) [] _ ride)
after_ride-block rules (first ∷ block) ride =
    let freed = (numbers rules first.moment (rules.until first.moment) (first ∷ block)).freed in
    rw (at_ride-block rules (first ∷ block) ride)
    (elim (nat_lt ride.moment (rules.until first.moment)) as (λ v.
    with_charge (without_caps rules) ride (charge_at (without_caps rules) ride
    (freed_as freed (cond v (numbers rules first.moment (rules.until first.moment) (first ∷ block))
    (numbers rules ride.moment (rules.until ride.moment) []))))
    (freed_as freed (cond v (numbers rules first.moment (rules.until first.moment) (first ∷ block))
    (numbers rules ride.moment (rules.until ride.moment) [])))
    ≡ of_block rules (cond v (first ∷ (block ++ ride ∷ [])) (ride ∷ []))) [
      | true ↦ numbers-push rules first.moment (rules.until first.moment) (first ∷ block) freed ride
      | false ↦ numbers-push rules ride.moment (rules.until ride.moment) [] freed ride
    ])

first-states : (rules : TokenRules) → no_rides (without_caps rules) ≡ of_block rules []
unfolding no_rides of_block no_window
first-states rules = rw (none-paid rules, none-cost rules, none-charged rules) refl

-- the states are what the last window says
pub states-block : (rules : TokenRules) (taps : List TapIn)
    → states (without_caps rules) taps ≡ of_block rules (last_block (windows rules taps))
unfolding states windows
states-block rules taps =
    rw (dues-free rules [] taps, rides-alone, first-states rules)
    (fold-last (without_caps rules) (is_within rules.until) (of_block rules) _
    (after_ride-block rules))

-- ---- reasons and replies
charge-none : (rules : TokenRules) (ride : LiveTap) (states : CapStates)
    → charge_at (without_caps rules) ride states
    ≡ ByWindow (charge (rules.terms ride) states.rides states.window.cents)
unfolding charge_at least_from
charge-none rules ride states = by-window _

-- the reason of a ride of these states
abbrev pub ride_in : TokenRules → LiveTap → CapStates → Reason
ride_in rules ride states = reason.Ride states.window.start states.window.until
    (charge (rules.terms ride) states.rides states.window.cents)

ride_by-some : (start until : ℕ) (found : Option Charge) (one : Charge) → found ≡ Some one
    → rule.ride_by start until found ≡ reason.Ride start until one
ride_by-some start until found one is = ap (rule.ride_by start until) is

-- the reason of a ride of a window is that of its states
pub ride-block : (rules : TokenRules) (block : List LiveTap) (ride : LiveTap)
    → rule.ride_of rules (after_window rules block ride)
    ≡ ride_in rules ride (at_ride (without_caps rules) ride (of_block rules block))
unfolding rule.ride_of of_block is_within
ride-block rules [] ride =
    rw (at_ride-block rules [] ride)
    (ride_by-some ride.moment (rules.until ride.moment) _ _ (last_charge-push rules.terms [] ride))
ride-block rules (first ∷ block) ride =
    rw (at_ride-block rules (first ∷ block) ride)
    (elim (nat_lt ride.moment (rules.until first.moment)) as (λ v.
    rule.ride_of rules (cond v (first ∷ (block ++ ride ∷ [])) (ride ∷ []))
    ≡ ride_in rules ride
    (cond v (numbers rules first.moment (rules.until first.moment) (first ∷ block))
    (numbers rules ride.moment (rules.until ride.moment) []))) [
      | true ↦ ride_by-some first.moment (rules.until first.moment) _ _
          (last_charge-push rules.terms (first ∷ block) ride)
      | false ↦ ride_by-some ride.moment (rules.until ride.moment) _ _
          (last_charge-push rules.terms [] ride)
    ])

pub free-same : (capped : CappedRules) (states : CapStates) (trip : List LiveTap) (tap : TapIn)
    (one : Reason)
    → is_of_live one ≡ false → under_caps capped states trip tap one ≡ uncapped one
free-same capped states trip tap reason.Unknown free = refl
free-same capped states trip tap (reason.Stale latest) free = refl
free-same capped states trip tap (reason.Transfer moment mode) free = absurd (cc (free))
free-same capped states trip tap (reason.Ride start until charge) free = absurd (cc (free))

-- with no prices a transfer is free
pub transfer-same : (rules : TokenRules) (caps : List CapRules) (states : CapStates)
    (ride : LiveTap) (given : List LiveTap) (tap : LiveTap)
    → transfer_charge (record { rules = rules; caps = caps; pays = None }) states (ride ∷ given) tap
    ≡ None
transfer-same rules caps states ride given tap = rw (extra-free rules caps given ride tap) refl

ride-same : (rules : TokenRules) (tap : TapIn) (mode : Mode) (before : CapStates)
    (trip : List LiveTap)
    → tap.mode ≡ Some mode
    → under_caps (without_caps rules) before trip tap
    (ride_in rules (live_at tap.moment mode)
    (at_ride (without_caps rules) (live_at tap.moment mode) before))
    ≡ uncapped (ride_in rules (live_at tap.moment mode)
    (at_ride (without_caps rules) (live_at tap.moment mode) before))
unfolding ride_charge
ride-same rules tap mode before trip known =
    rw (
      known,
      charge-none rules (live_at tap.moment mode)
          (at_ride (without_caps rules) (live_at tap.moment mode) before),
    ) refl

pub reason-none : (rules : TokenRules) (taps : List TapIn) (tap : TapIn)
    → capped_reason (without_caps rules) taps tap ≡ uncapped (rule.reason rules taps tap)
unfolding capped_reason
reason-none rules taps tap = elim (tapped rules taps tap) [
  | is_free free same ↦ free-same (without_caps rules) (states (without_caps rules) taps)
      (trip_before rules taps) tap _ free
  | is_transfer mode known shown joins ride given is why ↦
      rw (
        why,
        known,
        is,
        transfer-same rules [] (states (without_caps rules) taps) ride given
            (live_at tap.moment mode),
      ) refl
  | is_ride mode known shown apart why ↦
      rw (
        why,
        ride-block rules (last_block (windows rules taps)) (live_at tap.moment mode),
        states-block rules taps,
      )
      (ride-same rules tap mode (of_block rules (last_block (windows rules taps)))
      (trip_before rules taps) known)
]

pub replied-none : (one : Reason) → replied_by (uncapped one) ≡ rule.replied_by one
replied-none reason.Unknown = refl
replied-none (reason.Stale latest) = refl
replied-none (reason.Transfer moment mode) = refl
replied-none (reason.Ride start until charge) = refl

pub reply-none : (rules : TokenRules) (taps : List TapIn) (tap : TapIn)
    → capped_reply (without_caps rules) taps tap ≡ reply rules taps tap
unfolding capped_reply
reply-none rules taps tap =
    ap replied_by (reason-none rules taps tap) ∙ replied-none _ ∙ sym (reply-follows rules taps tap)

replies_after-none : (rules : TokenRules) (earlier taps : List TapIn)
    → capped_replies_after (without_caps rules) earlier taps ≡ replies_after rules earlier taps
unfolding capped_replies_after replies_after
replies_after-none rules earlier [] = refl
replies_after-none rules earlier (tap ∷ taps) =
    let one = reply-none rules earlier tap in
    let more = replies_after-none rules (earlier ++ tap ∷ []) taps in
    λ i. one i ∷ more i

pub replies-none : (rules : TokenRules) (taps : List TapIn)
    → capped_replies (without_caps rules) taps ≡ replies rules taps
unfolding capped_replies replies
replies-none rules taps = replies_after-none rules [] taps

shown-block : (rules : TokenRules) (block : List LiveTap)
    → option_map (λ (view : WindowView). record view {
      paid = (of_block rules block).paid;
      cents = (of_block rules block).window.cents;
    }) (shown_window rules block) ≡ shown_window rules block
unfolding shown_window of_block
shown-block rules [] = refl
shown-block rules (first ∷ block) = refl

pub window-none : (rules : TokenRules) (taps : List TapIn)
    → capped_window (without_caps rules) taps ≡ last_window rules taps
unfolding capped_window last_window
window-none rules taps =
    rw (states-block rules taps) (shown-block rules (last_block (windows rules taps)))

later-after : (capped : CappedRules) (earlier taps later : List TapIn)
    → capped_replies_after capped earlier (taps ++ later)
    ≡ capped_replies_after capped earlier taps ++ capped_replies_after capped (earlier ++ taps)
    later
unfolding capped_replies_after
later-after capped earlier [] later = rw (append-nil earlier) refl
later-after capped earlier (tap ∷ taps) later =
    ap (λ more. capped_reply capped earlier tap ∷ more)
    (later-after capped (earlier ++ tap ∷ []) taps later
    ∙ rw (append_assoc earlier (tap ∷ []) taps) refl)

pub later-nothing : (capped : CappedRules) (taps later : List TapIn)
    → capped_replies capped (taps ++ later)
    ≡ capped_replies capped taps ++ capped_replies_after capped taps later
unfolding capped_replies
later-nothing capped taps later = later-after capped [] taps later
