-- Which lists of taps an account under caps represents.
use Rattle.account_rule.specs.{Blocks.last_block, Taps.LiveTap, Trips.last_tap, Trips.trips}
use Rattle.account_rule.specs.declared.tap.TapIn.{TapIn}
use Rattle.fare_caps.specs.CapStates.{CapStates, states}
use Rattle.fare_caps.specs.Caps.{CappedRules, has_more, no_window}
use Rattle.fare_caps.specs.{Prices.fare, Prices.price, declared.cap_window.CapWindow.CapWindow}
use Rattle.fare_caps.specs.declared.capped_account.CappedAccount.{CappedAccount}
use Rattle.fare_caps.specs.declared.further.Further.{Further}
use Rattle.std.specs.Prelude.{◌≡◌, ℕ, ◌≤◌, true, false, List, [], ◌∷◌, length, min, take}
use Rattle.account_rule.specs.Represents as rule

-- the windows that are kept, of which the first belong to caps
abbrev pub cap_windows : Further → List CapWindow
cap_windows further = further.first ∷ further.second ∷ further.third ∷ []

-- what is kept before the first ride
abbrev pub no_further : Further
no_further = record {
  window = no_window;
  first = no_window;
  second = no_window;
  third = no_window;
  rides = 0;
  paid = 0;
  fare = 0;
  price = 0;
  mode = record { position = 0 };
  freed = false;
}

-- the numbers leave room for one more ride or transfer
pub record HasRoom (further : Further) : Type 0 where
  pub paid : further.paid ≤ further.rides
  pub rides : further.rides ≤ 60_000
  pub window : further.window.cents ≤ 100_000_000
  pub first : further.first.cents ≤ 100_000_000
  pub second : further.second.cents ≤ 100_000_000
  pub third : further.third.cents ≤ 100_000_000
  pub fare : further.fare ≤ 100_000
  pub price_low : further.fare ≤ further.price
  pub price_high : further.price ≤ 200_000

-- the numbers are those of the states of this number of caps, and leave room for one more tap
pub record IsFurther (count : ℕ) (further : Further) (states : CapStates) : Type 0 where
  -- rides are counted up to the highest ride limit of a table
  pub rides : further.rides ≡ min states.rides 60_000
  pub paid : further.paid ≡ states.paid
  pub window : further.window ≡ states.window
  pub caps : take count (cap_windows further) ≡ states.caps
  pub freed : further.freed ≡ states.freed
  pub room : HasRoom further

-- what is kept of a trip: the fare of its ride, its price, and the mode of its last tap
pub record IsTrip (capped : CappedRules) (further : Further) (ride : LiveTap)
    (given : List LiveTap) : Type 0 where
  pub fare : further.fare ≡ fare capped ride
  pub price : further.price ≡ price capped (ride ∷ given)
  pub mode : further.mode ≡ (last_tap ride given).mode

-- the numbers are those of the last trip, if there is one
abbrev pub KeepsTrip : CappedRules → Further → List LiveTap → Type 0
KeepsTrip capped further [] = Unit {0}
KeepsTrip capped further (ride ∷ given) = IsTrip capped further ride given

-- the numbers are those of the states and of the last trip
pub record KeepsFurther (capped : CappedRules) (further : Further) (taps : List TapIn)
    : Type 0 where
  pub states : IsFurther (length capped.caps) further (states capped taps)
  pub trip : KeepsTrip capped further (last_block (trips capped.rules taps))

-- the account represents the list: what it keeps decides each later reply as the list does
pub record Represents (capped : CappedRules) (kept : CappedAccount) (taps : List TapIn)
    : Type 0 where
  pub account : rule.Represents capped.rules kept.account taps
  pub further : has_more capped ≡ true → KeepsFurther capped kept.further taps

-- there is a list of taps that the account represents
unfoldable pub RepresentsSome : CappedRules → CappedAccount → Type 0
RepresentsSome capped kept = (taps : List TapIn) × Represents capped kept taps
