-- What decides the charge of a tap: the last windows of `window` and of all caps, after the taps
-- before it that may have cost something.
use Rattle.account_rule.specs.{Taps.LiveTap, Windows.charge, declared.tap.TapIn.TapIn}
use Rattle.fare_caps.specs.Caps.{CappedRules, counted, each_window, no_window, opened, window_cap}
use Rattle.fare_caps.specs.Charges.{cap_cents, cap_paid, is_freed, least_from, lowered}
use Rattle.fare_caps.specs.Prices.{Due, of_ride, of_transfer, dues}
use Rattle.fare_caps.specs.declared.{cap_charge.CapCharge.CapCharge, cap_window.CapWindow.CapWindow}
use Rattle.std.specs.Prelude.{ℕ, ◌+◌, Bool, false, if◌then◌else◌, List, [], ◌∷◌, is_some, map}
use Rattle.std.specs.Prelude.{nat_lt, Option, Some, None}
use Rattle.tariffs.specs.declared.terms.Terms.{Terms}

pub record CapStates : Type 0 where
  -- how many rides the last window of `window` has had
  pub rides : ℕ
  -- how many of them were paid
  pub paid : ℕ
  pub window : CapWindow
  -- the last window of each cap
  pub caps : List CapWindow
  -- whether the limit of rides freed the last ride
  pub freed : Bool

-- the states before the first ride
unfoldable pub no_rides : CappedRules → CapStates
no_rides capped = record {
  rides = 0;
  paid = 0;
  window = no_window;
  caps = map (λ cap. no_window) capped.caps;
  freed = false;
}

-- the states in which the ride is charged: each window has not ended
unfoldable pub at_ride : CappedRules → LiveTap → CapStates → CapStates
at_ride capped ride states = record {
  rides = if nat_lt ride.moment states.window.until then states.rides else 0;
  paid = if nat_lt ride.moment states.window.until then states.paid else 0;
  window = opened ride (window_cap capped.rules) states.window;
  caps = each_window (opened ride) capped.caps states.caps;
  freed = states.freed;
}

-- what decides the cents of the ride in these states
unfoldable pub charge_at : CappedRules → LiveTap → CapStates → CapCharge
charge_at capped ride states =
    lowered (least_from 0 None ride capped.caps states.caps)
    (charge (capped.rules.terms ride) states.rides states.window.cents)

-- the states with the ride, whose cents this decides
unfoldable pub with_charge : CappedRules → LiveTap → CapCharge → CapStates → CapStates
with_charge capped ride charge states = record {
  rides = states.rides + 1;
  paid = states.paid + (if is_some (cap_paid charge) then 1 else 0);
  window = counted ride (cap_cents charge) (window_cap capped.rules) states.window;
  caps = each_window (counted ride (cap_cents charge)) capped.caps states.caps;
  freed = is_freed charge;
}

-- what decides the cents of a ride, after those that made the states
unfoldable pub ride_charge : CappedRules → CapStates → LiveTap → CapCharge
ride_charge capped states ride = charge_at capped ride (at_ride capped ride states)

-- the states after one more ride
unfoldable pub after_ride : CappedRules → CapStates → LiveTap → CapStates
after_ride capped states ride =
    with_charge capped ride (ride_charge capped states ride) (at_ride capped ride states)

-- the terms of a transfer of this fare: no limit of rides frees it
abbrev pub extra_terms : Terms → ℕ → Terms
extra_terms terms cents = record { fare = cents; rides = 1; ceiling = terms.ceiling }

-- What decides the cents of a transfer that raises the price of its trip by so many, in the windows
-- of the last ride. If the limit of rides freed its ride it is free.
unfoldable pub extra_charge : CappedRules → CapStates → LiveTap → ℕ → Option CapCharge
extra_charge capped states tap cents =
    if states.freed then None
    else Some (lowered (least_from 0 None tap capped.caps states.caps)
    (charge (extra_terms (capped.rules.terms tap) cents) 0 states.window.cents))

-- the states with the transfer, whose cents this decides
unfoldable pub with_extra : CappedRules → LiveTap → CapCharge → CapStates → CapStates
with_extra capped tap charge states = record states {
  window = counted tap (cap_cents charge) (window_cap capped.rules) states.window;
  caps = each_window (counted tap (cap_cents charge)) capped.caps states.caps;
}

-- the states with the transfer, if something is charged
abbrev pub with_some_extra : CappedRules → LiveTap → Option CapCharge → CapStates → CapStates
with_some_extra capped tap None states = states
with_some_extra capped tap (Some charge) states = with_extra capped tap charge states

-- what decides the cents of the tap after those that made the states, if something does
unfoldable pub due_charge : CappedRules → CapStates → Due → Option CapCharge
due_charge capped states (of_ride tap) = Some (ride_charge capped states tap)
due_charge capped states (of_transfer tap cents) = extra_charge capped states tap cents

-- the states after one more tap
unfoldable pub after_due : CappedRules → CapStates → Due → CapStates
after_due capped states (of_ride tap) = after_ride capped states tap
after_due capped states (of_transfer tap cents) =
    with_some_extra capped tap (extra_charge capped states tap cents) states

-- the states after more taps
unfoldable pub after_dues : CappedRules → CapStates → List Due → CapStates
after_dues capped states [] = states
after_dues capped states (due ∷ more) = after_dues capped (after_due capped states due) more

-- the states after all taps
unfoldable pub states : CappedRules → List TapIn → CapStates
states capped taps = after_dues capped (no_rides capped) (dues capped taps)
