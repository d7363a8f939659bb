-- The trips of a token: each is a ride and the transfers that it gives.
use Rattle.account_rule.specs.{Blocks.blocks_by, Blocks.last_block, Taps.LiveTap, Taps.live}
use Rattle.account_rule.specs.TokenRules.{TokenRules, TransferRules}
use Rattle.account_rule.specs.declared.tap.TapIn.{TapIn}
use Rattle.std.specs.{List.flat_map, Prelude.ℕ, Prelude.◌-◌, Prelude.Bool, Prelude.false}
use Rattle.std.specs.Prelude.{◌&&◌, List, [], ◌∷◌, length, nat_le, nat_lt, Option, Some, None, take}

-- the last of a tap and those after it
unfoldable pub last_tap : LiveTap → List LiveTap → LiveTap
last_tap tap [] = tap
last_tap tap (next ∷ more) = last_tap next more

-- Whether the tap is a transfer of the trip: its ride gives one more, the tap comes within the time
-- from the ride on, the limit included, and there is a transfer from the mode of the trip's last
-- tap.
unfoldable pub continues : TransferRules → List LiveTap → LiveTap → Bool
continues rules [] tap = false
continues rules (ride ∷ given) tap =
    nat_lt (length given) (rules.count tap)
    && nat_le (tap.moment - ride.moment) (rules.time tap)
    && rules.permits (last_tap ride given).mode tap

-- the live taps, divided into trips
unfoldable pub trips : TokenRules → List TapIn → List (List LiveTap)
trips rules taps = blocks_by (continues rules.transfers) (live taps)

-- the rides: the first tap of each trip; the others are transfers
unfoldable pub rides : TokenRules → List TapIn → List LiveTap
rides rules taps = flat_map (λ trip. take 1 trip) (trips rules taps)

-- whether the last live tap is a transfer
unfoldable pub ends_in_transfer : TokenRules → List TapIn → Bool
ends_in_transfer rules taps = nat_lt 1 (length (last_block (trips rules taps)))

-- what decides whether one more tap is a transfer of a trip, and what gives it
pub record TripEnd : Type 0 where
  -- its ride
  pub ride : LiveTap
  -- its last tap
  pub last : LiveTap
  -- how many transfers it has
  pub given : ℕ

-- the end of the trip
unfoldable pub trip_of : List LiveTap → Option TripEnd
trip_of [] = None
trip_of (ride ∷ given) =
    Some (record { ride = ride; last = last_tap ride given; given = length given })

-- the end of the last trip of the taps, if there is one
unfoldable pub last_trip : TokenRules → List TapIn → Option TripEnd
last_trip rules taps = trip_of (last_block (trips rules taps))
