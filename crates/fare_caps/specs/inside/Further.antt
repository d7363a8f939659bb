-- What private functions make of the numbers that are kept, by what the caps say of one ride.
use Rattle.account_rule.specs.Windows.{charge}
use Rattle.fare_caps.specs.{CapMeanings.said_of, CapStates.extra_terms, Caps.opened_until}
use Rattle.fare_caps.specs.Charges.{cap_cents, cap_paid, is_freed, lesser, lowered}
use Rattle.fare_caps.specs.{Prices.wanted, declared.cap_charge.CapCharge.CapCharge}
use Rattle.fare_caps.specs.declared.{cap_charge.CapLeft.CapLeft, cap_window.CapWindow.CapWindow}
use Rattle.fare_caps.specs.declared.capped_reason.CappedReason.{CappedReason}
use Rattle.fare_caps.specs.declared.capped_reason.CappedReason.TheVariants.{PaidTransfer, Transfer}
use Rattle.fare_caps.specs.declared.further.{Further.Further, RideCaps.RideCaps}
use Rattle.fare_caps.specs.declared.ride_cap.RideCap.{RideCap}
use Rattle.std.specs.Prelude.{ℕ, ◌+◌, ◌-◌, ◌==◌, ◌||◌, if◌then◌else◌, List, is_some, max, min, ◌≤◌}
use Rattle.std.specs.Prelude.{IfSome, nat_lt, Option, Some, None, option_map, slice_get}
use Rattle.tariffs.specs.{ClockView.ClockView, TableMeaning.TableMeaning, Until.window_end_in}
use Rattle.tariffs.specs.{WindowSpan.IsBoundedSpan, declared.cap_terms.CapTerms.CapTerms}
use Rattle.tariffs.specs.declared.{mode.Mode.Mode, price.Pays.Pays, terms.Terms.Terms}

-- what the cap at the index says of the ride by what is valid, if there are so many caps
abbrev pub said_at : List CapTerms → TableMeaning → ℕ → ℕ → ℕ → Option RideCap
said_at caps meaning mode class index =
    option_map (λ cap. said_of meaning index mode class) (slice_get caps index)

-- what all caps say of the ride
abbrev pub said_by : List CapTerms → TableMeaning → ℕ → ℕ → RideCaps
said_by caps meaning mode class = record {
  first = said_at caps meaning mode class 0;
  second = said_at caps meaning mode class 1;
  third = said_at caps meaning mode class 2;
}

-- the span and the ceiling of a cap are within their bounds
abbrev pub IsBoundedCap : RideCap → Type 0
IsBoundedCap cap = IsBoundedSpan cap.span × (cap.ceiling ≤ 100_000_000)

-- so are those of all caps
pub record AreBoundedCaps (caps : RideCaps) : Type 0 where
  pub first : IfSome caps.first IsBoundedCap
  pub second : IfSome caps.second IsBoundedCap
  pub third : IfSome caps.third IsBoundedCap

-- the window of the ride
abbrev pub opened_by : ClockView → ℕ → Option RideCap → CapWindow → CapWindow
opened_by clock moment None window = window
opened_by clock moment (Some cap) window =
    opened_until moment (window_end_in clock cap.span moment) window

-- what the cap leaves
abbrev pub left_by : Option RideCap → CapWindow → Option ℕ
left_by None window = None
left_by (Some cap) window = if cap.counts then Some (cap.ceiling - window.cents) else None

-- the window with the cents of the ride
abbrev pub counted_by : ℕ → Option RideCap → CapWindow → CapWindow
counted_by cents None window = window
counted_by cents (Some cap) window =
    record window { cents = window.cents + (if cap.counts then cents else 0) }

-- the windows of the ride, `window` until the moment that is named if the ride opens it
unfoldable pub opened_all : ClockView → ℕ → ℕ → RideCaps → Further → Further
opened_all clock moment until caps further = record further {
  window = opened_until moment until further.window;
  first = opened_by clock moment caps.first further.first;
  second = opened_by clock moment caps.second further.second;
  third = opened_by clock moment caps.third further.third;
  rides = if nat_lt moment further.window.until then further.rides else 0;
  paid = if nat_lt moment further.window.until then further.paid else 0;
}

-- the least that the caps leave
unfoldable pub least_of : RideCaps → Further → Option CapLeft
least_of caps further =
    lesser (lesser (lesser None 0 (left_by caps.first further.first)) 1
    (left_by caps.second further.second)) 2 (left_by caps.third further.third)

-- what decides the cents of the ride
unfoldable pub charge_of : Terms → RideCaps → Further → CapCharge
charge_of terms caps further =
    lowered (least_of caps further) (charge terms further.rides further.window.cents)

-- the numbers with the cents of a tap
abbrev pub counted_cents : ℕ → RideCaps → Further → Further
counted_cents cents caps further = record further {
  window = record further.window { cents = further.window.cents + cents };
  first = counted_by cents caps.first further.first;
  second = counted_by cents caps.second further.second;
  third = counted_by cents caps.third further.third;
}

-- the numbers with the ride
unfoldable pub counted_all : CapCharge → RideCaps → Further → Further
counted_all charge caps further = record (counted_cents (cap_cents charge) caps further) {
  rides = min (further.rides + 1) 60_000;
  paid = further.paid + (if is_some (cap_paid charge) then 1 else 0);
  freed = is_freed charge;
}

-- the numbers with a trip that the ride of this fare on the mode begins
abbrev pub with_new_trip : ℕ → Mode → Further → Further
with_new_trip fare mode further = record further { fare = fare; price = fare; mode = mode }

-- the price of the trip with a transfer of this fare that pays this
abbrev pub raised : Option Pays → ℕ → Further → ℕ
raised pays own further = max further.price (wanted further.fare own pays)

-- the numbers with the transfer in the trip
abbrev pub transferred : Option Pays → ℕ → Mode → Further → Further
transferred pays own mode further = record further { price = raised pays own further; mode = mode }

-- what decides the cents of a transfer that raises the price by so many, if it costs something
unfoldable pub extra_of : Terms → RideCaps → ℕ → Further → Option CapCharge
extra_of terms caps cents further =
    if cents == 0 || further.freed then None
    else Some (lowered (least_of caps further)
    (charge (extra_terms terms cents) 0 further.window.cents))

-- the numbers with the transfer's cents, if it costs something
abbrev pub with_some_cents : Option CapCharge → RideCaps → Further → Further
with_some_cents None caps further = further
with_some_cents (Some charge) caps further = counted_cents (cap_cents charge) caps further

-- the reason of a transfer that the ride at the moment gives
abbrev pub transfer_reason : Further → ℕ → Mode → Option CapCharge → CappedReason
transfer_reason further moment mode None = Transfer moment mode
transfer_reason further moment mode (Some charge) =
    PaidTransfer further.window.start further.window.until moment mode charge
