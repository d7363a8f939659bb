-- Why a ride is not a transfer, over the whole list of its token's earlier taps.
use Rattle.account_rule.specs.{Reasons.reason, Taps.LiveTap, Taps.live, Taps.live_at}
use Rattle.account_rule.specs.TokenRules.{TokenRules, TransferRules}
use Rattle.account_rule.specs.Trips.{TripEnd, last_trip}
use Rattle.account_rule.specs.declared.no_transfer.NoTransfer.{NoTransfer, TheVariants.FirstTap}
use Rattle.account_rule.specs.declared.no_transfer.NoTransfer.TheVariants.{TooLate, AfterTransfer}
use Rattle.account_rule.specs.declared.no_transfer.NoTransfer.TheVariants.{NoneGiven, NotPermitted}
use Rattle.account_rule.specs.declared.no_transfer.NoTransfer.TheVariants.{RideTooLate}
use Rattle.account_rule.specs.declared.reason.{Charge.Charge, Reason.TheVariants.Ride}
use Rattle.account_rule.specs.declared.tap.TapIn.{TapIn}
use Rattle.std.specs.Prelude.{◌≡◌, ℕ, ◌-◌, ◌<◌, ◌≤◌, false, if◌then◌else◌, List, [], Option, Some}
use Rattle.std.specs.Prelude.{None, nat_eq, nat_le, nat_lt}
use Rattle.tariffs.specs.declared.mode.Mode.{Mode}

-- why a trip that gives no more transfers gives none: it gave its last one, or gives none at all
abbrev pub spent_from : TripEnd → NoTransfer
spent_from trip = if nat_eq trip.given 0 then NoneGiven else AfterTransfer trip.last.moment

-- why the last trip, if there is one, gives no transfer to a ride
unfoldable pub no_transfer_from : TransferRules → Option TripEnd → LiveTap → NoTransfer
no_transfer_from rules None ride = FirstTap
no_transfer_from rules (Some trip) ride =
    if nat_lt (rules.time ride) (ride.moment - trip.last.moment)
    then TooLate trip.last.moment
    else (if nat_le (rules.count ride) trip.given then spent_from trip
    else (if nat_lt (rules.time ride) (ride.moment - trip.ride.moment)
    then RideTooLate trip.ride.moment
    else NotPermitted trip.last.mode ride.mode))

-- why a ride at the moment, on the mode, is not a transfer after its token's earlier taps
unfoldable pub no_transfer : TokenRules → List TapIn → ℕ → Mode → NoTransfer
no_transfer rules earlier moment mode =
    no_transfer_from rules.transfers (last_trip rules earlier) (live_at moment mode)

-- what each says of the ride and of the last trip before it
abbrev pub Lacks : TokenRules → List TapIn → LiveTap → NoTransfer → Type 0
Lacks rules earlier ride FirstTap = live earlier ≡ []
Lacks rules earlier ride (TooLate last) =
    (trip : TripEnd) × (last_trip rules earlier ≡ Some trip) × (trip.last.moment ≡ last)
    × (rules.transfers.time ride < ride.moment - last)
Lacks rules earlier ride NoneGiven = rules.transfers.count ride ≡ 0
Lacks rules earlier ride (AfterTransfer last) =
    (trip : TripEnd) × (last_trip rules earlier ≡ Some trip) × (trip.last.moment ≡ last)
    × (rules.transfers.count ride ≤ trip.given)
Lacks rules earlier ride (RideTooLate moment) =
    (trip : TripEnd) × (last_trip rules earlier ≡ Some trip) × (trip.ride.moment ≡ moment)
    × (rules.transfers.time ride < ride.moment - moment)
Lacks rules earlier ride (NotPermitted from to) =
    (trip : TripEnd) × (last_trip rules earlier ≡ Some trip) × (trip.last.mode ≡ from)
    × (to ≡ ride.mode) × (rules.transfers.permits from ride ≡ false)

-- the modes that it names are among this number of modes
abbrev pub HasModesBelow : ℕ → NoTransfer → Type 0
HasModesBelow modes FirstTap = Unit {0}
HasModesBelow modes (TooLate last) = Unit {0}
HasModesBelow modes NoneGiven = Unit {0}
HasModesBelow modes (AfterTransfer last) = Unit {0}
HasModesBelow modes (RideTooLate moment) = Unit {0}
HasModesBelow modes (NotPermitted from to) = (from.position < modes) × (to.position < modes)

-- of each ride, what is said is so: it is a condition of a transfer that fails
abbrev pub RidesLackTransfers : Type 0
RidesLackTransfers =
    (rules : TokenRules) (earlier : List TapIn) (tap : TapIn) (mode : Mode) (start until : ℕ)
    (charge : Charge)
    → tap.mode ≡ Some mode → reason rules earlier tap ≡ Ride start until charge
    → Lacks rules earlier (live_at tap.moment mode) (no_transfer rules earlier tap.moment mode)
