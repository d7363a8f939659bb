-- The numbers that are kept follow the states, ride by ride.
use Rattle.std.proofs.Common.{◌≡◌, ℕ, ◌+◌, ◌-◌, ◌≤◌, Bool, true, false, cond, List, [], ◌∷◌, length}
use Rattle.std.proofs.Common.{map, min, take, nat_lt, is_some, Option, Some, None, refl, sym, ap}
use Rattle.std.proofs.Common.{◌∙◌, inl, inr, arith, IfSome, ◌==◌, ◌||◌, not, nat_le, ◌++◌}
use Rattle.account_rule.proofs.{LimitLemmas.charge-min, TapLemmas.last_tap-push}
use Rattle.account_rule.specs.{Blocks.blocks_by, Blocks.last_block, Taps.LiveTap, Taps.live}
use Rattle.account_rule.specs.{Taps.live_after, Taps.live_at, TokenRules.rules_of}
use Rattle.account_rule.specs.{TokenRules.token_class, Trips.last_tap, Windows.charge}
use Rattle.fare_caps.proofs.LoweredLemmas.{IsAtMost, lowered-few, charge-within, lesser-here}
use Rattle.fare_caps.proofs.LoweredLemmas.{lesser-keeps, lesser-none, lowered-le, lowered-paid}
use Rattle.fare_caps.proofs.LoweredLemmas.{most-le, paid-below}
use Rattle.fare_caps.proofs.PriceLemmas.{extra-is, price-push}
use Rattle.fare_caps.specs.CapMeanings.{cap_positions, cap_rules, capped_rules_of, pays_of, said_of}
use Rattle.fare_caps.specs.CapStates.{CapStates, after_dues, after_ride, at_ride, charge_at}
use Rattle.fare_caps.specs.CapStates.{extra_charge, extra_terms, no_rides, ride_charge, states}
use Rattle.fare_caps.specs.CapStates.{with_charge, with_extra, with_some_extra}
use Rattle.fare_caps.specs.CappedReplies.{transfer_by, transfer_charge}
use Rattle.fare_caps.specs.Caps.{CapRules, CappedRules, counted, each_window, left, no_window}
use Rattle.fare_caps.specs.Caps.{opened, opened_until, window_cap}
use Rattle.fare_caps.specs.Charges.{cap_cents, cap_paid, least_from, lesser, lowered}
use Rattle.fare_caps.specs.Prices.{dues, extra, fare, pays_to, price, price_after}
use Rattle.fare_caps.specs.Represents.{HasRoom, IsFurther, IsTrip, KeepsFurther, cap_windows}
use Rattle.fare_caps.specs.Represents.{no_further}
use Rattle.fare_caps.specs.declared.cap_charge.{CapCharge.CapCharge, CapLeft.CapLeft}
use Rattle.fare_caps.specs.declared.{cap_window.CapWindow.CapWindow, further.Further.Further}
use Rattle.fare_caps.specs.declared.{further.RideCaps.RideCaps, ride_cap.RideCap.RideCap}
use Rattle.fare_caps.specs.inside.Further.{AreBoundedCaps, IsBoundedCap, charge_of, counted_all}
use Rattle.fare_caps.specs.inside.Further.{counted_by, counted_cents, extra_of, least_of, left_by}
use Rattle.fare_caps.specs.inside.Further.{opened_all, opened_by, raised, said_by, transfer_reason}
use Rattle.fare_caps.specs.inside.Further.{transferred, with_new_trip, with_some_cents}
use Rattle.std.proofs.lemmas.Bool.{cases_Bool, eqb-true, or_parts, true≢false}
use Rattle.std.proofs.lemmas.List.{length-map}
use Rattle.std.specs.{List.list_any, Prelude.if◌then◌else◌}
use Rattle.tariffs.specs.{ClockView.ClockView, Fares.Fares, Fares.has_prices, Fares.meaning_at}
use Rattle.tariffs.specs.{Fares.names_price, Fares.price_of, Fares.valid_at, Prices.price_in}
use Rattle.tariffs.specs.{TableMeaning.TableMeaning, Terms.AreBoundedTerms, Until.window_end_in}
use Rattle.tariffs.specs.declared.{cap_terms.CapTerms.CapTerms, mode.Mode.Mode, price.Pays.Pays}
use Rattle.tariffs.specs.declared.{price.Price.Price, terms.Terms.Terms}
use Rattle.account_rule.specs.Trips as taken
use Rattle.account_rule.specs.Windows as rule

-- what these caps of a table say of a ride of a token
abbrev pub said_of_caps : Fares → List ℕ → List CapTerms → ℕ → Mode → RideCaps
said_of_caps fares token caps moment mode =
    said_by caps (meaning_at fares moment) mode.position (token_class fares token moment)

-- what the caps of a table say of a ride of a token
abbrev pub said_to : Fares → List ℕ → ℕ → Mode → RideCaps
said_to fares token moment mode = said_of_caps fares token fares.meaning.caps moment mode

-- how many caps of a table count
abbrev pub caps_count : Fares → List ℕ → ℕ
caps_count fares token = length (map (cap_rules fares token) (cap_positions fares.meaning.caps))

-- never more than three count
pub positions-few : (caps : List CapTerms) → length (cap_positions caps) ≤ 3
positions-few [] = omega arith
positions-few (a ∷ []) = omega arith
positions-few (a ∷ b ∷ []) = omega arith
positions-few (a ∷ b ∷ c ∷ more) = omega arith

-- ---- each of at most three caps

-- a change of a window by what a cap says of the ride is one by the cap's rules
abbrev Alike : Fares → List ℕ → ℕ → Mode → (CapRules → CapWindow → CapWindow)
    → (Option RideCap → CapWindow → CapWindow) → Type 0
Alike fares token moment mode change by =
    (index : ℕ) (window : CapWindow)
    → by (Some (said_of (meaning_at fares moment) index mode.position
    (token_class fares token moment)))
    window
    ≡ change (cap_rules fares token index) window

three : (fares : Fares) (token : List ℕ) (moment : ℕ) (mode : Mode)
    (change : CapRules → CapWindow → CapWindow) (by : Option RideCap → CapWindow → CapWindow)
    (caps : List CapTerms) (a b c : CapWindow) → Alike fares token moment mode change by
    → take (length (map (cap_rules fares token) (cap_positions caps))) (by (said_of_caps fares token caps moment mode).first a
    ∷ by (said_of_caps fares token caps moment mode).second b
    ∷ by (said_of_caps fares token caps moment mode).third c ∷ [])
    ≡ each_window change (map (cap_rules fares token) (cap_positions caps))
    (take (length (map (cap_rules fares token) (cap_positions caps))) (a ∷ b ∷ c ∷ []))
unfolding each_window
three fares token moment mode change by [] a b c alike = refl
three fares token moment mode change by (x ∷ []) a b c alike = λ i. alike 0 a i ∷ []
three fares token moment mode change by (x ∷ y ∷ []) a b c alike =
    λ i. alike 0 a i ∷ alike 1 b i ∷ []
three fares token moment mode change by (x ∷ y ∷ z ∷ more) a b c alike =
    λ i. alike 0 a i ∷ alike 1 b i ∷ alike 2 c i ∷ []

left-alike : (fares : Fares) (token : List ℕ) (moment : ℕ) (mode : Mode) (index : ℕ)
    (window : CapWindow)
    → left_by (Some (said_of (meaning_at fares moment) index mode.position
    (token_class fares token moment)))
    window
    ≡ left (live_at moment mode) (cap_rules fares token index) window
unfolding left cap_rules live_at
left-alike fares token moment mode index window = refl

least-three : (fares : Fares) (token : List ℕ) (moment : ℕ) (mode : Mode) (caps : List CapTerms)
    (further : Further)
    → least_of (said_of_caps fares token caps moment mode) further
    ≡ least_from 0 None (live_at moment mode) (map (cap_rules fares token) (cap_positions caps))
    (take (length (map (cap_rules fares token) (cap_positions caps))) (cap_windows further))
unfolding least_of least_from
least-three fares token moment mode [] further = refl
least-three fares token moment mode (x ∷ []) further =
    lesser-none _ 2 ∙ lesser-none _ 1
    ∙ ap (lesser None 0) (left-alike fares token moment mode 0 further.first)
least-three fares token moment mode (x ∷ y ∷ []) further =
    lesser-none _ 2
    ∙ (λ i. lesser (lesser None 0 (left-alike fares token moment mode 0 further.first i)) 1
    (left-alike fares token moment mode 1 further.second i))
least-three fares token moment mode (x ∷ y ∷ z ∷ more) further =
    λ i. lesser (lesser (lesser None 0
    (left-alike fares token moment mode 0 further.first i)) 1
    (left-alike fares token moment mode 1 further.second i)) 2
    (left-alike fares token moment mode 2 further.third i)

-- ---- windows that are opened
opened-alike : (fares : Fares) (token : List ℕ) (moment : ℕ) (mode : Mode)
    → Alike fares token moment mode (opened (live_at moment mode)) (opened_by fares.zone moment)
unfolding opened cap_rules live_at
opened-alike fares token moment mode = λ index window. refl

room-until : (moment until : ℕ) (window : CapWindow) → window.cents ≤ 100_000_000
    → (opened_until moment until window).cents ≤ 100_000_000
unfolding opened_until
room-until moment until window low = elim (nat_lt moment window.until) as (λ v.
    (cond v window (record { start = moment; until = until; cents = 0 })).cents ≤ 100_000_000)
    [ true ↦ low | false ↦ omega arith ]

room-opened : (clock : ClockView) (moment : ℕ) (cap : Option RideCap) (window : CapWindow)
    → window.cents ≤ 100_000_000 → (opened_by clock moment cap window).cents ≤ 100_000_000
room-opened clock moment None window low = low
room-opened clock moment (Some cap) window low =
    room-until moment (window_end_in clock cap.span moment) window low

pub room-all : (clock : ClockView) (moment until : ℕ) (caps : RideCaps) (further : Further)
    → HasRoom further → HasRoom (opened_all clock moment until caps further)
unfolding opened_all
room-all clock moment until caps further room = record {
  paid = elim (nat_lt moment further.window.until) as (λ v.
      cond v further.paid 0 ≤ cond v further.rides 0)
      [ true ↦ room.paid | false ↦ omega arith ];
  rides = elim (nat_lt moment further.window.until) as (λ v. cond v further.rides 0 ≤ 60_000)
      [ true ↦ room.rides | false ↦ omega arith ];
  window = room-until moment until further.window room.window;
  first = room-opened clock moment caps.first further.first room.first;
  second = room-opened clock moment caps.second further.second room.second;
  third = room-opened clock moment caps.third further.third room.third;
  fare = room.fare;
  price_low = room.price_low;
  price_high = room.price_high;
}

cond-min : (b : Bool) (kept rides : ℕ) → kept ≡ min rides 60_000
    → cond b kept 0 ≡ min (cond b rides 0) 60_000
cond-min true kept rides is = is
cond-min false kept rides is = omega arith

pub opens : (fares : Fares) (token : List ℕ) (moment : ℕ) (mode : Mode)
    (further : Further) (states : CapStates)
    → IsFurther (caps_count fares token) further states
    → IsFurther (caps_count fares token)
    (opened_all fares.zone moment ((rules_of fares token).until moment)
    (said_to fares token moment mode) further)
    (at_ride (capped_rules_of fares token) (live_at moment mode) states)
unfolding opened_all at_ride capped_rules_of opened window_cap live_at
opens fares token moment mode further states is = record {
  rides = rw (← is.window) (cond-min (nat_lt moment further.window.until) _ _ is.rides);
  paid = rw (← is.window, is.paid) refl;
  window = rw is.window refl;
  caps = three fares token moment mode (opened (live_at moment mode))
      (opened_by fares.zone moment) fares.meaning.caps further.first further.second further.third
      (opened-alike fares token moment mode)
      ∙ ap (each_window (opened (live_at moment mode)) (map (cap_rules fares token)
      (cap_positions fares.meaning.caps))) is.caps;
  freed = is.freed;
  room = room-all fares.zone moment ((rules_of fares token).until moment)
      (said_to fares token moment mode) further is.room;
}

-- ---- the charge
pub charges : (fares : Fares) (token : List ℕ) (moment : ℕ) (mode : Mode)
    (further : Further) (states : CapStates)
    → IsFurther (caps_count fares token) further states
    → AreBoundedTerms ((rules_of fares token).terms (live_at moment mode))
    → charge_of ((rules_of fares token).terms (live_at moment mode))
    (said_to fares token moment mode) further
    ≡ charge_at (capped_rules_of fares token) (live_at moment mode) states
unfolding charge_of charge_at capped_rules_of
charges fares token moment mode further states is bounds =
    rw (
      least-three fares token moment mode fares.meaning.caps further,
      is.caps,
      is.rides,
      is.window,
      charge-min ((rules_of fares token).terms (live_at moment mode)) states.rides
          states.window.cents bounds.rides_high,
    ) refl

-- ---- the ride is counted
counted-alike : (fares : Fares) (token : List ℕ) (moment : ℕ) (mode : Mode) (cents : ℕ)
    → Alike fares token moment mode (counted (live_at moment mode) cents) (counted_by cents)
unfolding counted cap_rules live_at
counted-alike fares token moment mode cents = λ index window. refl

-- what is left bounds what is paid
abbrev Leaves : Option CapLeft → Option ℕ → Type 0
Leaves least None = Unit {0}
Leaves least (Some cents) = IsAtMost least cents

room-counted : (least : Option CapLeft) (cents : ℕ) (cap : Option RideCap) (window : CapWindow)
    → ((left : ℕ) → IsAtMost least left → cents ≤ left)
    → IfSome cap IsBoundedCap → Leaves least (left_by cap window) → window.cents ≤ 100_000_000
    → (counted_by cents cap window).cents ≤ 100_000_000
room-counted least cents None window most low leaves room = room
room-counted least cents (Some cap) window most low leaves room =
    elim cap.counts as (λ v. Leaves least (cond v (Some (cap.ceiling - window.cents)) None)
    → window.cents + cond v cents 0 ≤ 100_000_000) [
      | true ↦ λ leaves. omega (arith, most (cap.ceiling - window.cents) leaves, low.1, room)
      | false ↦ λ _. omega (arith, room)
    ] leaves

leaves-here : (least : Option CapLeft) (index : ℕ) (left : Option ℕ)
    → Leaves (lesser least index left) left
leaves-here least index None = tt
leaves-here least index (Some cents) = lesser-here least index cents

leaves-keeps : (least : Option CapLeft) (index : ℕ) (left other : Option ℕ) → Leaves least other
    → Leaves (lesser least index left) other
leaves-keeps least index left None leaves = tt
leaves-keeps least index left (Some cents) leaves = lesser-keeps least index left cents leaves

-- the numbers with the cents of a tap leave room
pub cents-room : (terms : Terms) (rides : ℕ) (caps : RideCaps) (further : Further)
    → AreBoundedTerms terms → HasRoom further
    → AreBoundedCaps caps
    → HasRoom (counted_cents (cap_cents (lowered (least_of caps further)
    (charge terms rides further.window.cents))) caps further)
unfolding least_of
cents-room terms rides caps further bounds room said =
    let one = charge terms rides further.window.cents in
    let first = left_by caps.first further.first in
    let second = left_by caps.second further.second in
    let third = left_by caps.third further.third in
    let least = lesser (lesser (lesser None 0 first) 1 second) 2 third in
    let cents = cap_cents (lowered least one) in
    let most : (left : ℕ) → IsAtMost least left → cents ≤ left =
    λ left at. most-le least left one at in
    record {
      paid = room.paid;
      rides = room.rides;
      window = omega (
        arith,
        lowered-le least one,
        charge-within terms rides further.window.cents bounds room.window,
      );
      first = room-counted least cents caps.first further.first most said.first
          (leaves-keeps _ 2 third first (leaves-keeps _ 1 second first (leaves-here None 0 first)))
          room.first;
      second = room-counted least cents caps.second further.second most said.second
          (leaves-keeps _ 2 third second (leaves-here _ 1 second)) room.second;
      third = room-counted least cents caps.third further.third most said.third
          (leaves-here _ 2 third) room.third;
      fare = room.fare;
      price_low = room.price_low;
      price_high = room.price_high;
    }

pub charge-room : (terms : Terms) (caps : RideCaps) (further : Further)
    → AreBoundedTerms terms → HasRoom further
    → AreBoundedCaps caps
    → HasRoom (counted_all (charge_of terms caps further) caps further)
unfolding counted_all charge_of
charge-room terms caps further bounds room said =
    let least = least_of caps further in
    let one = charge terms further.rides further.window.cents in
    let now = cents-room terms further.rides caps further bounds room said in
    record {
      paid = elim (cases_Bool (is_some (cap_paid (lowered least one)))) [
        | inl paid ↦ rw paid (omega (
          arith,
          room.paid,
          bounds.rides_high,
          paid-below terms further.rides further.window.cents (lowered-paid least one paid),
        ))
        | inr free ↦ rw free (omega (arith, room.paid, room.rides))
      ];
      rides = omega arith;
      window = now.window;
      first = now.first;
      second = now.second;
      third = now.third;
      fare = now.fare;
      price_low = now.price_low;
      price_high = now.price_high;
    }

-- the terms of a transfer are within their bounds
extra-bounds : (terms : Terms) (cents : ℕ) → AreBoundedTerms terms → cents ≤ 100_000
    → AreBoundedTerms (extra_terms terms cents)
extra-bounds terms cents bounds few = record {
  fare = few;
  rides_low = omega arith;
  rides_high = omega arith;
  ceiling_low = bounds.ceiling_low;
  ceiling_high = bounds.ceiling_high;
}

-- what is charged for a transfer is few cents, and leaves room
pub record IsSmall (caps : RideCaps) (further : Further) (charge : CapCharge) : Type 0 where
  pub few : cap_cents charge ≤ 100_000
  pub room : HasRoom (counted_cents (cap_cents charge) caps further)

extra-small : (terms : Terms) (caps : RideCaps) (further : Further) (cents : ℕ)
    → AreBoundedTerms terms → cents ≤ 100_000 → HasRoom further
    → AreBoundedCaps caps
    → IsSmall caps further (lowered (least_of caps further)
    (charge (extra_terms terms cents) 0 further.window.cents))
extra-small terms caps further cents bounds few room said = record {
  few = lowered-few (least_of caps further) (extra_terms terms cents) 0 further.window.cents
      (extra-bounds terms cents bounds few);
  room = cents-room (extra_terms terms cents) 0 caps further
      (extra-bounds terms cents bounds few) room said;
}

pub extra-room : (terms : Terms) (caps : RideCaps) (further : Further) (cents : ℕ)
    (charge : CapCharge)
    → AreBoundedTerms terms → cents ≤ 100_000 → HasRoom further
    → AreBoundedCaps caps
    → Some charge ≡ extra_of terms caps cents further → IsSmall caps further charge
unfolding extra_of
extra-room terms caps further cents charge bounds few room said is =
    elim (cases_Bool (cents == 0 || further.freed)) [
      | inl none ↦
          let no : Some charge ≡ None = rw none at is in
          absurd (cc (no))
      | inr some ↦
          let same : Some charge ≡ Some (lowered (least_of caps further)
          (rule.charge (extra_terms terms cents) 0 further.window.cents)) = rw some at is in
          let one : charge ≡ lowered (least_of caps further)
          (rule.charge (extra_terms terms cents) 0 further.window.cents) = cc (same) in
          rw one (extra-small terms caps further cents bounds few room said)
    ]

-- the numbers with a trip that a ride of this fare begins
pub trip-room : (fare : ℕ) (mode : Mode) (further : Further) → fare ≤ 100_000 → HasRoom further
    → HasRoom (with_new_trip fare mode further)
trip-room fare mode further few room = record {
  paid = room.paid;
  rides = room.rides;
  window = room.window;
  first = room.first;
  second = room.second;
  third = room.third;
  fare = few;
  price_low = omega arith;
  price_high = omega (arith, few);
}

pub charge-cents : (terms : Terms) (caps : RideCaps) (further : Further) → AreBoundedTerms terms
    → cap_cents (charge_of terms caps further) ≤ 100_000
unfolding charge_of
charge-cents terms caps further bounds =
    lowered-few (least_of caps further) terms further.rides further.window.cents bounds

pub counts : (fares : Fares) (token : List ℕ) (moment : ℕ) (mode : Mode)
    (charge : CapCharge) (further : Further) (states : CapStates)
    → IsFurther (caps_count fares token) further states
    → HasRoom (counted_all charge (said_to fares token moment mode) further)
    → IsFurther (caps_count fares token)
    (counted_all charge (said_to fares token moment mode) further)
    (with_charge (capped_rules_of fares token) (live_at moment mode) charge states)
unfolding counted_all with_charge capped_rules_of counted window_cap
counts fares token moment mode charge further states is room = record {
  rides = omega (arith, is.rides);
  paid = rw is.paid refl;
  window = rw is.window refl;
  caps = three fares token moment mode (counted (live_at moment mode) (cap_cents charge))
      (counted_by (cap_cents charge)) fares.meaning.caps further.first further.second further.third
      (counted-alike fares token moment mode (cap_cents charge))
      ∙ ap (each_window (counted (live_at moment mode) (cap_cents charge))
      (map (cap_rules fares token)
      (cap_positions fares.meaning.caps))) is.caps;
  freed = refl;
  room = room;
}

-- the trip changes no window
trip-further : (count : ℕ) (fare : ℕ) (mode : Mode) (further : Further) (states : CapStates)
    → IsFurther count further states → HasRoom (with_new_trip fare mode further)
    → IsFurther count (with_new_trip fare mode further) states
trip-further count fare mode further states is room = record {
  rides = is.rides;
  paid = is.paid;
  window = is.window;
  caps = is.caps;
  freed = is.freed;
  room = room;
}

-- ---- one ride
room-before : (fare : ℕ) (mode : Mode) (further : Further) (caps : RideCaps) (charge : CapCharge)
    → HasRoom further → HasRoom (with_new_trip fare mode (counted_all charge caps further))
    → HasRoom (counted_all charge caps further)
unfolding counted_all
room-before fare mode further caps charge before after = record {
  paid = after.paid;
  rides = after.rides;
  window = after.window;
  first = after.first;
  second = after.second;
  third = after.third;
  fare = before.fare;
  price_low = before.price_low;
  price_high = before.price_high;
}

pub record IsRide (fares : Fares) (token : List ℕ) (moment : ℕ) (mode : Mode)
    (states : CapStates) (charge : CapCharge) (after : Further) : Type 0 where
  pub costs : charge
      ≡ ride_charge (capped_rules_of fares token) states (live_at moment mode)
  pub state : IsFurther (caps_count fares token) after
      (after_ride (capped_rules_of fares token) states (live_at moment mode))
  pub trip : IsTrip (capped_rules_of fares token) after (live_at moment mode) []

-- the windows of the ride
abbrev pub opened_to : Fares → List ℕ → ℕ → Mode → Further → Further
opened_to fares token moment mode further =
    opened_all fares.zone moment ((rules_of fares token).until moment)
    (said_to fares token moment mode) further

trip-begins : (fares : Fares) (token : List ℕ) (moment : ℕ) (mode : Mode) (further : Further)
    → IsTrip (capped_rules_of fares token)
    (with_new_trip ((rules_of fares token).terms (live_at moment mode)).fare mode further)
    (live_at moment mode) []
unfolding capped_rules_of price price_after last_tap live_at
trip-begins fares token moment mode further = record { fare = refl; price = refl; mode = refl }

pub rides : (fares : Fares) (token : List ℕ) (moment : ℕ) (mode : Mode)
    (further after : Further) (states : CapStates) (charge : CapCharge)
    → IsFurther (caps_count fares token) further states
    → AreBoundedTerms ((rules_of fares token).terms (live_at moment mode))
    → HasRoom after
    → charge ≡ charge_of ((rules_of fares token).terms (live_at moment mode))
    (said_to fares token moment mode) (opened_to fares token moment mode further)
    → after ≡ with_new_trip ((rules_of fares token).terms (live_at moment mode)).fare mode
    (counted_all charge (said_to fares token moment mode)
    (opened_to fares token moment mode further))
    → IsRide fares token moment mode states charge after
unfolding ride_charge after_ride
rides fares token moment mode further after states charge is bounds room costs counted =
    let inside = opened_to fares token moment mode further in
    let now = opens fares token moment mode further states is in
    let same = costs ∙ charges fares token moment mode inside _ now bounds in
    record {
      costs = same;
      state = rw (← same, counted)
          (trip-further (caps_count fares token) ((rules_of fares token).terms (live_at moment mode)).fare
          mode (counted_all charge (said_to fares token moment mode) inside) _
          (counts fares token moment mode charge inside _ now
          (room-before ((rules_of fares token).terms (live_at moment mode)).fare mode inside
          (said_to fares token moment mode) charge now.room (rw counted at room)))
          (rw counted at room));
      trip = rw counted (trip-begins fares token moment mode
          (counted_all charge (said_to fares token moment mode) inside));
    }

-- ---- the first ride
none-three : (caps : List CapRules) → length caps ≤ 3
    → take (length caps) (no_window ∷ no_window ∷ no_window ∷ []) ≡ map (λ cap. no_window) caps
none-three [] few = refl
none-three (x ∷ []) few = refl
none-three (x ∷ y ∷ []) few = refl
none-three (x ∷ y ∷ z ∷ []) few = refl
none-three (x ∷ y ∷ z ∷ u ∷ more) few = absurd (omega (arith, few))

room-nothing : HasRoom no_further
unfolding no_window
room-nothing = record {
  paid = omega arith;
  rides = omega arith;
  window = omega arith;
  first = omega arith;
  second = omega arith;
  third = omega arith;
  fare = omega arith;
  price_low = omega arith;
  price_high = omega arith;
}

-- an account that has seen no tap
pub keeps-nothing : (fares : Fares) (token : List ℕ)
    → KeepsFurther (capped_rules_of fares token) no_further []
unfolding states after_dues dues taken.trips live live_after blocks_by last_block no_rides
    capped_rules_of
keeps-nothing fares token =
    let caps = map (cap_rules fares token) (cap_positions fares.meaning.caps) in
    record {
      states = record {
        rides = omega arith;
        paid = refl;
        window = refl;
        caps = none-three caps (omega (
          arith,
          positions-few fares.meaning.caps,
          length-map (cap_positions fares.meaning.caps) (cap_rules fares token),
        ));
        freed = refl;
        room = room-nothing;
      };
      trip = tt;
    }

-- ---- one transfer

-- a length that is not above 0
pub no-length : (count : ℕ) → not (count == 0) ≡ false → count ≡ 0
no-length count none = elim (cases_Bool (count == 0)) [
  | inl zero ↦ eqb-true count 0 zero
  | inr some ↦ absurd (true≢false (sym (ap not some) ∙ none))
]

none-priced : (meaning : TableMeaning) (from to : ℕ) → names_price meaning ≡ false
    → price_of meaning from to ≡ None
none-priced meaning from to none = by meaning.prices (no-length (length meaning.prices) none)
  where
    by : (prices : List Price) → length prices ≡ 0 → price_in prices from to ≡ None
    by [] is = refl
    by (one ∷ more) is = absurd (omega (arith, is))

later-priced : (meaning : TableMeaning) (later : List (ℕ × TableMeaning)) (moment from to : ℕ)
    → names_price meaning ≡ false → list_any (λ next. names_price next.1) later ≡ false
    → price_of (valid_at meaning later moment) from to ≡ None
unfolding valid_at
later-priced meaning [] moment from to none rest = none-priced meaning from to none
later-priced meaning (next ∷ later) moment from to none rest =
    let both = or_parts (names_price next.1) (list_any (λ n. names_price n.1) later) rest in
    elim (nat_le next.0 moment) as (λ v.
    price_of (cond v (valid_at next.1 later moment) meaning) from to ≡ None) [
      | true ↦ later-priced next.1 later moment from to both.0 both.1
      | false ↦ none-priced meaning from to none
    ]

-- what the pair pays by the rules
pub pays-by : (fares : Fares) (token : List ℕ) (from mode : Mode) (moment : ℕ)
    → price_of (meaning_at fares moment) from.position mode.position
    ≡ pays_to (capped_rules_of fares token) from (live_at moment mode)
unfolding capped_rules_of pays_of live_at meaning_at
pays-by fares token from mode moment = elim (cases_Bool (has_prices fares)) [
  | inl some ↦ rw some refl
  | inr none ↦
      let both = or_parts (names_price fares.meaning)
      (list_any (λ next. names_price next.1) fares.later) none in
      rw none (later-priced fares.meaning fares.later moment from.position mode.position both.0
      both.1)
]

-- the numbers with the transfer in the trip, and those before
abbrev pub in_trip : Fares → Mode → ℕ → Mode → Further → ℕ → Further
in_trip fares from moment mode further own =
    transferred (price_of (meaning_at fares moment) from.position mode.position) own mode further

pub record IsTransfer (fares : Fares) (token : List ℕ) (moment : ℕ) (mode : Mode)
    (states : CapStates) (ride : LiveTap) (given : List LiveTap) (charge : Option CapCharge)
    (after : Further) : Type 0 where
  pub costs : charge
      ≡ transfer_charge (capped_rules_of fares token) states (ride ∷ given) (live_at moment mode)
  pub state : IsFurther (caps_count fares token) after
      (with_some_extra (capped_rules_of fares token) (live_at moment mode) charge states)
  pub trip : IsTrip (capped_rules_of fares token) after ride (given ++ live_at moment mode ∷ [])

transfer-cents : (fares : Fares) (token : List ℕ) (moment : ℕ) (mode : Mode) (pays : Option Pays)
    (further : Further) (states : CapStates) (cents : ℕ)
    → IsFurther (caps_count fares token) further states
    → extra_of ((rules_of fares token).terms (live_at moment mode))
    (said_to fares token moment mode) cents
    (transferred pays ((rules_of fares token).terms (live_at moment mode)).fare mode further)
    ≡ (if cents == 0 then None
    else extra_charge (capped_rules_of fares token) states (live_at moment mode) cents)
unfolding extra_of extra_charge capped_rules_of least_of
transfer-cents fares token moment mode pays further states cents is =
    let least = least-three fares token moment mode fares.meaning.caps further in
    elim (cases_Bool (cents == 0)) [
      | inl none ↦ rw none refl
      | inr some ↦ rw (some, is.freed, ← is.window, ← is.caps, ← least) refl
    ]

same-fare : (fares : Fares) (token : List ℕ) (moment : ℕ) (mode : Mode)
    → ((rules_of fares token).terms (live_at moment mode)).fare
    ≡ fare (capped_rules_of fares token) (live_at moment mode)
unfolding capped_rules_of
same-fare fares token moment mode = refl

extra-same : (fares : Fares) (token : List ℕ) (moment : ℕ) (mode : Mode) (further : Further)
    (ride : LiveTap) (given : List LiveTap)
    → IsTrip (capped_rules_of fares token) further ride given
    → raised (price_of (meaning_at fares moment) further.mode.position mode.position)
    ((rules_of fares token).terms (live_at moment mode)).fare further - further.price
    ≡ extra (capped_rules_of fares token) (ride ∷ given) (live_at moment mode)
extra-same fares token moment mode further ride given is =
    rw (
      same-fare fares token moment mode,
      extra-is (capped_rules_of fares token) ride given (live_at moment mode),
      pays-by fares token further.mode mode moment,
      is.price,
      is.fare,
      is.mode,
    ) refl

last-of : (fares : Fares) (token : List ℕ) (moment : ℕ) (mode : Mode) (ride : LiveTap)
    (given : List LiveTap)
    → mode ≡ (last_tap ride (given ++ live_at moment mode ∷ [])).mode
unfolding live_at
last-of fares token moment mode ride given =
    sym (ap (λ (t : LiveTap). t.mode) (last_tap-push ride given (live_at moment mode)))

-- the trip with the transfer
trip-with : (fares : Fares) (token : List ℕ) (moment : ℕ) (mode : Mode) (further : Further)
    (ride : LiveTap) (given : List LiveTap)
    → IsTrip (capped_rules_of fares token) further ride given
    → IsTrip (capped_rules_of fares token)
    (in_trip fares further.mode moment mode further
    ((rules_of fares token).terms (live_at moment mode)).fare) ride
    (given ++ live_at moment mode ∷ [])
trip-with fares token moment mode further ride given is = record {
  fare = is.fare;
  price = rw (
    same-fare fares token moment mode,
    price-push (capped_rules_of fares token) ride given (live_at moment mode),
    pays-by fares token further.mode mode moment,
    is.price,
    is.fare,
    is.mode,
  ) refl;
  mode = last-of fares token moment mode ride given;
}

-- the cents of a transfer are counted, and change no trip
cents-trip : (capped : CappedRules) (charge : Option CapCharge) (caps : RideCaps)
    (further : Further) (ride : LiveTap) (given : List LiveTap)
    → IsTrip capped further ride given
    → IsTrip capped (with_some_cents charge caps further) ride given
cents-trip capped None caps further ride given is = is
cents-trip capped (Some charge) caps further ride given is =
    record { fare = is.fare; price = is.price; mode = is.mode }

transfer-state : (fares : Fares) (token : List ℕ) (moment : ℕ) (mode : Mode) (pays : Option Pays)
    (own : ℕ) (further : Further) (states : CapStates) (charge : Option CapCharge)
    → IsFurther (caps_count fares token) further states
    → HasRoom (with_some_cents charge (said_to fares token moment mode)
    (transferred pays own mode further))
    → IsFurther (caps_count fares token)
    (with_some_cents charge (said_to fares token moment mode) (transferred pays own mode further))
    (with_some_extra (capped_rules_of fares token) (live_at moment mode) charge states)
unfolding with_extra capped_rules_of counted window_cap
transfer-state fares token moment mode pays own further states None is room = record {
  rides = is.rides;
  paid = is.paid;
  window = is.window;
  caps = is.caps;
  freed = is.freed;
  room = room;
}
transfer-state fares token moment mode pays own further states (Some charge) is room = record {
  rides = is.rides;
  paid = is.paid;
  window = rw is.window refl;
  caps = three fares token moment mode (counted (live_at moment mode) (cap_cents charge))
      (counted_by (cap_cents charge)) fares.meaning.caps further.first further.second further.third
      (counted-alike fares token moment mode (cap_cents charge))
      ∙ ap (each_window (counted (live_at moment mode) (cap_cents charge))
      (map (cap_rules fares token)
      (cap_positions fares.meaning.caps))) is.caps;
  freed = is.freed;
  room = room;
}

pub transfers : (fares : Fares) (token : List ℕ) (moment : ℕ) (mode : Mode)
    (further after : Further) (states : CapStates) (ride : LiveTap) (given : List LiveTap)
    (charge : Option CapCharge)
    → IsFurther (caps_count fares token) further states
    → IsTrip (capped_rules_of fares token) further ride given
    → HasRoom after
    → charge ≡ extra_of ((rules_of fares token).terms (live_at moment mode))
    (said_to fares token moment mode)
    (raised (price_of (meaning_at fares moment) further.mode.position mode.position)
    ((rules_of fares token).terms (live_at moment mode)).fare further - further.price)
    (in_trip fares further.mode moment mode further
    ((rules_of fares token).terms (live_at moment mode)).fare)
    → after ≡ with_some_cents charge (said_to fares token moment mode)
    (in_trip fares further.mode moment mode further
    ((rules_of fares token).terms (live_at moment mode)).fare)
    → IsTransfer fares token moment mode states ride given charge after
transfers fares token moment mode further after states ride given charge is trip room costs
    counted =
    let pays = price_of (meaning_at fares moment) further.mode.position mode.position in
    let own = ((rules_of fares token).terms (live_at moment mode)).fare in
    record {
      costs = costs
          ∙ transfer-cents fares token moment mode pays further states
          (raised pays own further - further.price) is
          ∙ ap (λ n. if n == 0 then None
          else extra_charge (capped_rules_of fares token) states (live_at moment mode) n)
          (extra-same fares token moment mode further ride given trip);
      state = rw counted (transfer-state fares token moment mode pays own further states charge is
          (rw counted at room));
      trip = rw counted (cents-trip (capped_rules_of fares token) charge
          (said_to fares token moment mode)
          (in_trip fares further.mode moment mode further own) ride
          (given ++ live_at moment mode ∷ [])
          (trip-with fares token moment mode further ride given trip));
    }

-- the reason names the last window
pub reason-of : (count : ℕ) (further after : Further) (states : CapStates) (moment : ℕ)
    (mode : Mode) (charge : Option CapCharge)
    → IsFurther count further states → after.window.start ≡ further.window.start
    → after.window.until ≡ further.window.until
    → transfer_reason after moment mode charge ≡ transfer_by states moment mode charge
reason-of count further after states moment mode None is start until = refl
reason-of count further after states moment mode (Some charge) is start until =
    rw (start, until, is.window) refl

pub same-window : (charge : Option CapCharge) (caps : RideCaps) (pays : Option Pays) (own : ℕ)
    (mode : Mode) (further : Further)
    → ((with_some_cents charge caps (transferred pays own mode further)).window.start
    ≡ further.window.start)
    × ((with_some_cents charge caps (transferred pays own mode further)).window.until
    ≡ further.window.until)
same-window None caps pays own mode further = (refl, refl)
same-window (Some charge) caps pays own mode further = (refl, refl)
