-- Why a tap is answered as it is, over the whole list of its token's earlier taps.
use Rattle.account_rule.specs.{Blocks.last_block, Replies.reply, Replies.reply_with}
use Rattle.account_rule.specs.{Replies.ride_reply, Taps.LiveTap, Taps.is_later, Taps.live_at}
use Rattle.account_rule.specs.{TokenRules.TokenRules, Trips.TripEnd, Trips.ends_in_transfer}
use Rattle.account_rule.specs.{Trips.last_trip, Windows.charges, Windows.paid_by, Windows.windows}
use Rattle.account_rule.specs.declared.reason.{Charge.Charge, Reason.Reason}
use Rattle.account_rule.specs.declared.reason.Reason.TheVariants.{Unknown, Stale, Transfer, Ride}
use Rattle.account_rule.specs.declared.{reply.Reply.Reply, tap.TapIn.TapIn}
use Rattle.std.specs.{List.last_or, Prelude.◌≡◌, Prelude.ℕ}
use Rattle.std.specs.Prelude.{if◌then◌else◌, List, [], ◌∷◌, ◌++◌, Option, Some, None, is_some, max}
use Rattle.tariffs.specs.declared.mode.Mode.{Mode}
use Rattle.account_rule.specs.declared.reply.Answer.TheVariants as answer

-- the latest moment of the known taps
unfoldable pub latest : List TapIn → ℕ
latest [] = 0
latest (tap ∷ taps) = if is_some tap.mode then max tap.moment (latest taps) else latest taps

-- a transfer is given by the ride of its trip (there always is one)
unfoldable pub given_by : Option TripEnd → Reason
given_by None = Unknown
given_by (Some trip) = Transfer trip.ride.moment trip.ride.mode

-- a ride of a window from the one moment to the other, and what decides its cents (something does)
abbrev pub ride_by : ℕ → ℕ → Option Charge → Reason
ride_by start until None = Unknown
ride_by start until (Some charge) = Ride start until charge

-- a ride is the last one of its window (which has a ride at least)
unfoldable pub ride_of : TokenRules → List LiveTap → Reason
ride_of rules [] = Unknown
ride_of rules (first ∷ window) =
    ride_by first.moment (rules.until first.moment)
    (last_or None (charges rules.terms (first ∷ window)))

-- why a live tap is answered as it is: `taps` ends with it
unfoldable pub live_reason : TokenRules → List TapIn → List TapIn → Reason
live_reason rules earlier taps =
    if ends_in_transfer rules taps
    then given_by (last_trip rules earlier)
    else ride_of rules (last_block (windows rules taps))

-- why a tap after the earlier ones of its token is answered as it is
unfoldable pub reason : TokenRules → List TapIn → TapIn → Reason
reason rules earlier tap =
    if is_some tap.mode
    then (if is_later earlier tap.moment then live_reason rules earlier (earlier ++ tap ∷ [])
    else Stale (latest earlier))
    else Unknown

-- the reply that follows from the reason
abbrev pub replied_by : Reason → Reply
replied_by Unknown = reply_with answer.Unknown 0
replied_by (Stale moment) = reply_with answer.Stale 0
replied_by (Transfer moment mode) = reply_with answer.Transfer 0
replied_by (Ride start until charge) = ride_reply (paid_by charge)

-- each reply is the one that follows from the reason
abbrev pub RepliesFollow : Type 0
RepliesFollow =
    (rules : TokenRules) (earlier : List TapIn) (tap : TapIn)
    → reply rules earlier tap ≡ replied_by (reason rules earlier tap)

-- what gives a transfer is the ride of the last trip before it: it was at the moment and on the
-- mode that are named
abbrev pub GiversAreRides : Type 0
GiversAreRides =
    (rules : TokenRules) (earlier : List TapIn) (tap : TapIn) (moment : ℕ) (mode : Mode)
    → reason rules earlier tap ≡ Transfer moment mode
    → (trip : TripEnd) × (last_trip rules earlier ≡ Some trip) × (trip.ride ≡ live_at moment mode)
