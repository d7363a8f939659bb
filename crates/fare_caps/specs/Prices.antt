-- The prices of trips, and what their transfers raise them by.
use Rattle.account_rule.specs.{Taps.LiveTap, Trips.trips, declared.tap.TapIn.TapIn}
use Rattle.fare_caps.specs.Caps.{CappedRules}
use Rattle.std.specs.{List.flat_map, Option.option_and_then, Prelude.ℕ, Prelude.◌+◌, Prelude.◌-◌}
use Rattle.std.specs.Prelude.{◌==◌, if◌then◌else◌, List, [], ◌∷◌, ◌++◌, max, Option, Some, None}
use Rattle.tariffs.specs.declared.{mode.Mode.Mode, price.Pays.Pays}
use Rattle.tariffs.specs.declared.price.Pays.TheVariants.{Difference, More}

-- what a transfer from the mode to the tap pays, if it is not free
abbrev pub pays_to : CappedRules → Mode → LiveTap → Option Pays
pays_to capped from tap = option_and_then (λ pays. pays from tap) capped.pays

-- the fare of the tap's mode
abbrev pub fare : CappedRules → LiveTap → ℕ
fare capped tap = (capped.rules.terms tap).fare

-- What a trip costs at least, once it has a transfer that pays this: the fare of its ride and so
-- many cents more, or the fare of the transfer's own mode.
abbrev pub wanted : ℕ → ℕ → Option Pays → ℕ
wanted ride own None = 0
wanted ride own (Some (More cents)) = ride + cents
wanted ride own (Some Difference) = own

-- the price of a trip of this price with the transfers that follow its last tap
unfoldable pub price_after : CappedRules → LiveTap → LiveTap → ℕ → List LiveTap → ℕ
price_after capped ride last price [] = price
price_after capped ride last price (tap ∷ more) =
    price_after capped ride tap
    (max price (wanted (fare capped ride) (fare capped tap) (pays_to capped last.mode tap))) more

-- the price of a trip: the fare of its ride, raised by each transfer, if it is not so high already
unfoldable pub price : CappedRules → List LiveTap → ℕ
price capped [] = 0
price capped (ride ∷ given) = price_after capped ride ride (fare capped ride) given

-- what the tap raises the price of the trip by as its next transfer
unfoldable pub extra : CappedRules → List LiveTap → LiveTap → ℕ
extra capped trip tap = price capped (trip ++ tap ∷ []) - price capped trip

-- a live tap that may cost something: a ride, or a transfer that raises the price of its trip by
-- these cents
pub data Due : Type 0 where
  of_ride : LiveTap → Due
  of_transfer : LiveTap → ℕ → Due

-- the tap
abbrev pub due_tap : Due → LiveTap
due_tap (of_ride tap) = tap
due_tap (of_transfer tap cents) = tap

-- the next transfer of the trip, if it raises its price
unfoldable pub transfer_due : CappedRules → List LiveTap → LiveTap → List Due
transfer_due capped trip tap =
    if extra capped trip tap == 0 then [] else of_transfer tap (extra capped trip tap) ∷ []

-- the transfers that follow those of the trip and raise its price
unfoldable pub dues_after : CappedRules → List LiveTap → List LiveTap → List Due
dues_after capped trip [] = []
dues_after capped trip (tap ∷ more) =
    transfer_due capped trip tap ++ dues_after capped (trip ++ tap ∷ []) more

-- the taps of a trip that may cost something
unfoldable pub trip_dues : CappedRules → List LiveTap → List Due
trip_dues capped [] = []
trip_dues capped (ride ∷ given) = of_ride ride ∷ dues_after capped (ride ∷ []) given

-- the live taps that may cost something
unfoldable pub dues : CappedRules → List TapIn → List Due
dues capped taps = flat_map (trip_dues capped) (trips capped.rules taps)
