-- The reason of each tap of a token under caps and prices, and the reply, after the taps before it.
use Rattle.account_rule.specs.{Blocks.last_block, Replies.reply_with, Replies.ride_reply}
use Rattle.account_rule.specs.{Taps.LiveTap, Taps.live_at, Trips.trips, Windows.last_window}
use Rattle.account_rule.specs.declared.{reason.Reason.Reason, reply.Reply.Reply, tap.TapIn.TapIn}
use Rattle.account_rule.specs.declared.window.WindowView.{WindowView}
use Rattle.fare_caps.specs.CapStates.{CapStates, ride_charge, extra_charge, states}
use Rattle.fare_caps.specs.{Caps.CappedRules, Charges.cap_cents, Charges.cap_paid, Prices.extra}
use Rattle.fare_caps.specs.declared.cap_charge.CapCharge.{CapCharge}
use Rattle.fare_caps.specs.declared.capped_reason.CappedReason.{CappedReason}
use Rattle.fare_caps.specs.declared.capped_reason.CappedReason.TheVariants.{PaidTransfer, Ride}
use Rattle.fare_caps.specs.declared.capped_reason.CappedReason.TheVariants.{Stale, Transfer}
use Rattle.fare_caps.specs.declared.capped_reason.CappedReason.TheVariants.{Unknown}
use Rattle.std.specs.{Option.option_and_then, Prelude.ℕ, Prelude.◌==◌}
use Rattle.std.specs.Prelude.{if◌then◌else◌, List, [], ◌∷◌, ◌++◌, Option, Some, None, option_map}
use Rattle.tariffs.specs.declared.mode.Mode.{Mode}
use Rattle.account_rule.specs.declared.reason.Reason.TheVariants as reason
use Rattle.account_rule.specs.declared.reply.Answer.TheVariants as answer
use Rattle.account_rule.specs.Reasons as rule

-- a ride of this window on the mode (a ride has one)
abbrev pub ride_on : CappedRules → CapStates → ℕ → ℕ → ℕ → Option Mode → CappedReason
ride_on capped states start until moment None = Unknown
ride_on capped states start until moment (Some mode) =
    Ride start until (ride_charge capped states (live_at moment mode))

-- what decides the cents of the tap as the next transfer of the trip, if it costs something
abbrev pub transfer_charge : CappedRules → CapStates → List LiveTap → LiveTap → Option CapCharge
transfer_charge capped states trip tap =
    if extra capped trip tap == 0 then None
    else extra_charge capped states tap (extra capped trip tap)

-- a transfer that the ride at the moment gives, in the last window if it costs something
abbrev pub transfer_by : CapStates → ℕ → Mode → Option CapCharge → CappedReason
transfer_by states moment mode None = Transfer moment mode
transfer_by states moment mode (Some charge) =
    PaidTransfer states.window.start states.window.until moment mode charge

-- The reason of a tap under caps and prices, after the last trip, by the reason without them. They
-- change no transfer, no ride and no window, but what decides the cents of a ride or a transfer.
abbrev pub under_caps : CappedRules → CapStates → List LiveTap → TapIn → Reason → CappedReason
under_caps capped states trip tap reason.Unknown = Unknown
under_caps capped states trip tap (reason.Stale latest) = Stale latest
under_caps capped states trip tap (reason.Transfer moment mode) =
    transfer_by states moment mode (option_and_then
    (λ on. transfer_charge capped states trip (live_at tap.moment on)) tap.mode)
under_caps capped states trip tap (reason.Ride start until charge) =
    ride_on capped states start until tap.moment tap.mode

-- why a tap after the earlier ones of its token is answered as it is
unfoldable pub capped_reason : CappedRules → List TapIn → TapIn → CappedReason
capped_reason capped earlier tap =
    under_caps capped (states capped earlier) (last_block (trips capped.rules earlier)) tap
    (rule.reason capped.rules earlier tap)

-- the reply that follows from the reason
abbrev pub replied_by : CappedReason → Reply
replied_by Unknown = reply_with answer.Unknown 0
replied_by (Stale latest) = reply_with answer.Stale 0
replied_by (Transfer moment mode) = reply_with answer.Transfer 0
replied_by (PaidTransfer start until moment mode charge) =
    reply_with answer.Transfer (cap_cents charge)
replied_by (Ride start until charge) = ride_reply (cap_paid charge)

-- the reply to a tap after the earlier ones of its token
unfoldable pub capped_reply : CappedRules → List TapIn → TapIn → Reply
capped_reply capped earlier tap = replied_by (capped_reason capped earlier tap)

-- the replies to the taps that follow the earlier ones
unfoldable pub capped_replies_after : CappedRules → List TapIn → List TapIn → List Reply
capped_replies_after capped earlier [] = []
capped_replies_after capped earlier (tap ∷ taps) =
    capped_reply capped earlier tap ∷ capped_replies_after capped (earlier ++ tap ∷ []) taps

-- the reply to each tap after those before it
unfoldable pub capped_replies : CappedRules → List TapIn → List Reply
capped_replies capped taps = capped_replies_after capped [] taps

-- the last window of `window`, with what its rides and their transfers cost under caps and prices
unfoldable pub capped_window : CappedRules → List TapIn → Option WindowView
capped_window capped taps = option_map (λ (view : WindowView). record view {
  paid = (states capped taps).paid;
  cents = (states capped taps).window.cents;
}) (last_window capped.rules taps)
