-- What one more tap makes of the price of a trip, and of the taps that may cost something.
use Rattle.std.proofs.Common.{◌≡◌, ℕ, ◌-◌, ◌≤◌, Bool, true, false, cond, List, [], ◌∷◌, ◌++◌, max}
use Rattle.std.proofs.Common.{map, take, Some, None, refl, sym, ap, ◌∙◌, arith, append-nil}
use Rattle.std.proofs.Common.{append_assoc}
use Rattle.account_rule.proofs.{BlockLemmas.extend, TapLemmas.trips-push}
use Rattle.account_rule.specs.{Blocks.last_block, Taps.LiveTap, Taps.live_tap}
use Rattle.account_rule.specs.{TokenRules.TokenRules, Trips.continues, Trips.last_tap, Trips.rides}
use Rattle.account_rule.specs.{Trips.trips, declared.tap.TapIn.TapIn}
use Rattle.fare_caps.specs.Caps.{CapRules, CappedRules}
use Rattle.fare_caps.specs.Prices.{Due, dues, dues_after, extra, fare, of_ride, pays_to, price}
use Rattle.fare_caps.specs.Prices.{price_after, transfer_due, trip_dues, wanted}
use Rattle.std.specs.List.{flat_map}

-- ---- the price of a trip

price_after-push : (capped : CappedRules) (ride last : LiveTap) (now : ℕ) (given : List LiveTap)
    (tap : LiveTap)
    → price_after capped ride last now (given ++ tap ∷ [])
    ≡ max (price_after capped ride last now given)
    (wanted (fare capped ride) (fare capped tap) (pays_to capped (last_tap last given).mode tap))
unfolding price_after last_tap
price_after-push capped ride last now [] tap = refl
price_after-push capped ride last now (next ∷ given) tap =
    price_after-push capped ride next
    (max now (wanted (fare capped ride) (fare capped next) (pays_to capped last.mode next))) given
    tap

-- the price with one more transfer
pub price-push : (capped : CappedRules) (ride : LiveTap) (given : List LiveTap) (tap : LiveTap)
    → price capped (ride ∷ given ++ tap ∷ [])
    ≡ max (price capped (ride ∷ given))
    (wanted (fare capped ride) (fare capped tap) (pays_to capped (last_tap ride given).mode tap))
unfolding price
price-push capped ride given tap =
    price_after-push capped ride ride (fare capped ride) given tap

price_after-low : (capped : CappedRules) (ride last : LiveTap) (now : ℕ) (given : List LiveTap)
    → now ≤ price_after capped ride last now given
unfolding price_after
price_after-low capped ride last now [] = omega arith
price_after-low capped ride last now (tap ∷ more) =
    omega (
      arith,
      price_after-low capped ride tap
          (max now (wanted (fare capped ride) (fare capped tap) (pays_to capped last.mode tap))) more,
    )

-- no trip has a price below the fare of its ride
pub price-low : (capped : CappedRules) (ride : LiveTap) (given : List LiveTap)
    → fare capped ride ≤ price capped (ride ∷ given)
unfolding price
price-low capped ride given = price_after-low capped ride ride (fare capped ride) given

-- what the transfer raises it by
pub extra-is : (capped : CappedRules) (ride : LiveTap) (given : List LiveTap) (tap : LiveTap)
    → extra capped (ride ∷ given) tap
    ≡ max (price capped (ride ∷ given))
    (wanted (fare capped ride) (fare capped tap) (pays_to capped (last_tap ride given).mode tap))
    - price capped (ride ∷ given)
unfolding extra
extra-is capped ride given tap = rw (price-push capped ride given tap) refl

-- ---- the taps that may cost something

dues_after-push : (capped : CappedRules) (trip given : List LiveTap) (tap : LiveTap)
    → dues_after capped trip (given ++ tap ∷ [])
    ≡ dues_after capped trip given ++ transfer_due capped (trip ++ given) tap
unfolding dues_after
dues_after-push capped trip [] tap = rw (append-nil trip) (append-nil _)
dues_after-push capped trip (next ∷ given) tap =
    ap (λ more. transfer_due capped trip next ++ more)
    (dues_after-push capped (trip ++ next ∷ []) given tap
    ∙ rw (append_assoc trip (next ∷ []) given) refl)
    ∙ sym (append_assoc (transfer_due capped trip next) _ _)

trip_dues-push : (capped : CappedRules) (ride : LiveTap) (given : List LiveTap) (tap : LiveTap)
    → trip_dues capped (ride ∷ given ++ tap ∷ [])
    ≡ trip_dues capped (ride ∷ given) ++ transfer_due capped (ride ∷ given) tap
unfolding trip_dues
trip_dues-push capped ride given tap =
    ap (λ more. of_ride ride ∷ more) (dues_after-push capped (ride ∷ []) given tap)

-- the trip has a tap if another one continues it
abbrev Continues : (List LiveTap → LiveTap → Bool) → Type 0
Continues joins = (tap : LiveTap) → joins [] tap ≡ false

-- what the tap adds after the last of the trips
abbrev due_after : CappedRules → Bool → List LiveTap → LiveTap → List Due
due_after capped joined trip tap =
    cond joined (transfer_due capped trip tap) (of_ride tap ∷ [])

joined : (capped : CappedRules) (ride : LiveTap) (given : List LiveTap) (tap : LiveTap)
    → trip_dues capped (ride ∷ given ++ tap ∷ []) ++ []
    ≡ (trip_dues capped (ride ∷ given) ++ []) ++ transfer_due capped (ride ∷ given) tap
joined capped ride given tap =
    append-nil _ ∙ trip_dues-push capped ride given tap
    ∙ ap (λ ds. ds ++ transfer_due capped (ride ∷ given) tap) (sym (append-nil _))

one-trip : (capped : CappedRules) (joins : List LiveTap → LiveTap → Bool) (trip : List LiveTap)
    (tap : LiveTap) → Continues joins
    → flat_map (trip_dues capped) (cond (joins trip tap) ((trip ++ tap ∷ []) ∷ [])
    (trip ∷ (tap ∷ []) ∷ []))
    ≡ (trip_dues capped trip ++ []) ++ due_after capped (joins trip tap) trip tap
unfolding trip_dues dues_after
one-trip capped joins [] tap none = rw (none tap) refl
one-trip capped joins (ride ∷ given) tap none =
    elim (joins (ride ∷ given) tap) as (λ v.
    flat_map (trip_dues capped) (cond v ((ride ∷ given ++ tap ∷ []) ∷ [])
    ((ride ∷ given) ∷ (tap ∷ []) ∷ []))
    ≡ (trip_dues capped (ride ∷ given) ++ []) ++ due_after capped v (ride ∷ given) tap) [
      | true ↦ joined capped ride given tap
      | false ↦ sym (append_assoc (trip_dues capped (ride ∷ given)) [] (of_ride tap ∷ []))
    ]

dues-extend : (capped : CappedRules) (joins : List LiveTap → LiveTap → Bool)
    (blocks : List (List LiveTap)) (tap : LiveTap) → Continues joins
    → flat_map (trip_dues capped) (extend joins blocks tap)
    ≡ flat_map (trip_dues capped) blocks
    ++ due_after capped (joins (last_block blocks) tap) (last_block blocks) tap
unfolding extend last_block trip_dues dues_after
dues-extend capped joins [] tap none = rw (none tap) refl
dues-extend capped joins (trip ∷ []) tap none = one-trip capped joins trip tap none
dues-extend capped joins (trip ∷ next ∷ more) tap none =
    ap (λ ds. trip_dues capped trip ++ ds) (dues-extend capped joins (next ∷ more) tap none)
    ∙ sym (append_assoc (trip_dues capped trip) _ _)

continues-none : (rules : TokenRules) → Continues (continues rules.transfers)
unfolding continues
continues-none rules = λ tap. refl

-- the taps that may cost something, with one more live tap
pub dues-push : (capped : CappedRules) (taps : List TapIn) (tap : TapIn) (shown : LiveTap)
    → live_tap taps tap ≡ Some shown
    → dues capped (taps ++ tap ∷ [])
    ≡ dues capped taps
    ++ due_after capped
    (continues capped.rules.transfers (last_block (trips capped.rules taps)) shown)
    (last_block (trips capped.rules taps)) shown
unfolding dues
dues-push capped taps tap shown some =
    rw (trips-push capped.rules taps tap shown some)
    (dues-extend capped (continues capped.rules.transfers) (trips capped.rules taps) shown
    (continues-none capped.rules))

-- ---- no prices: the taps that may cost something are the rides

price_after-free : (rules : TokenRules) (caps : List CapRules) (ride last : LiveTap) (now : ℕ)
    (given : List LiveTap)
    → price_after (record { rules = rules; caps = caps; pays = None }) ride last now given ≡ now
unfolding price_after
price_after-free rules caps ride last now [] = refl
price_after-free rules caps ride last now (tap ∷ more) =
    let same : max now 0 ≡ now = omega arith in
    rw same (price_after-free rules caps ride tap now more)

pub extra-free : (rules : TokenRules) (caps : List CapRules) (trip : List LiveTap) (ride tap : LiveTap)
    → extra (record { rules = rules; caps = caps; pays = None }) (ride ∷ trip) tap ≡ 0
unfolding extra price
extra-free rules caps trip ride tap =
    omega (
      arith,
      price_after-free rules caps ride ride
          (fare (record { rules = rules; caps = caps; pays = None }) ride) trip,
      price_after-free rules caps ride ride
          (fare (record { rules = rules; caps = caps; pays = None }) ride) (trip ++ tap ∷ []),
    )

dues_after-free : (rules : TokenRules) (caps : List CapRules) (ride : LiveTap)
    (trip given : List LiveTap)
    → dues_after (record { rules = rules; caps = caps; pays = None }) (ride ∷ trip) given ≡ []
unfolding dues_after transfer_due
dues_after-free rules caps ride trip [] = refl
dues_after-free rules caps ride trip (tap ∷ given) =
    rw (extra-free rules caps trip ride tap)
    (dues_after-free rules caps ride (trip ++ tap ∷ []) given)

dues-of : (rules : TokenRules) (caps : List CapRules) (blocks : List (List LiveTap))
    → flat_map (trip_dues (record { rules = rules; caps = caps; pays = None })) blocks
    ≡ map of_ride (flat_map (λ trip. take 1 trip) blocks)
unfolding trip_dues
dues-of rules caps [] = refl
dues-of rules caps ([] ∷ more) = dues-of rules caps more
dues-of rules caps ((ride ∷ given) ∷ more) =
    rw (dues_after-free rules caps ride [] given)
    (ap (λ ds. of_ride ride ∷ ds) (dues-of rules caps more))

pub dues-free : (rules : TokenRules) (caps : List CapRules) (taps : List TapIn)
    → dues (record { rules = rules; caps = caps; pays = None }) taps ≡ map of_ride (rides rules taps)
unfolding dues rides
dues-free rules caps taps = dues-of rules caps (trips rules taps)

-- ---- rules of the same fares and prices

-- a tap has the same fare, and pairs pay the same
pub record ArePriced (one other : CappedRules) : Type 0 where
  pub fares : (tap : LiveTap) → fare other tap ≡ fare one tap
  pub pays : other.pays ≡ one.pays

price_after-same : (one other : CappedRules) (ride last : LiveTap) (now : ℕ) (given : List LiveTap)
    → ArePriced one other
    → price_after other ride last now given ≡ price_after one ride last now given
unfolding price_after
price_after-same one other ride last now [] same = refl
price_after-same one other ride last now (tap ∷ more) same =
    rw (same.fares ride, same.fares tap, same.pays)
    (price_after-same one other ride tap
    (max now (wanted (fare one ride) (fare one tap) (pays_to one last.mode tap))) more same)

price-same : (one other : CappedRules) (trip : List LiveTap) → ArePriced one other
    → price other trip ≡ price one trip
unfolding price
price-same one other [] same = refl
price-same one other (ride ∷ given) same =
    rw (same.fares ride) (price_after-same one other ride ride (fare one ride) given same)

pub extra-same : (one other : CappedRules) (trip : List LiveTap) (tap : LiveTap)
    → ArePriced one other → extra other trip tap ≡ extra one trip tap
unfolding extra
extra-same one other trip tap same =
    rw (price-same one other (trip ++ tap ∷ []) same, price-same one other trip same) refl

dues_after-same : (one other : CappedRules) (trip given : List LiveTap) → ArePriced one other
    → dues_after other trip given ≡ dues_after one trip given
unfolding dues_after transfer_due
dues_after-same one other trip [] same = refl
dues_after-same one other trip (tap ∷ more) same =
    rw (
      extra-same one other trip tap same,
      dues_after-same one other (trip ++ tap ∷ []) more same,
    ) refl

trip_dues-same : (one other : CappedRules) (trips : List (List LiveTap)) → ArePriced one other
    → flat_map (trip_dues other) trips ≡ flat_map (trip_dues one) trips
unfolding trip_dues
trip_dues-same one other [] same = refl
trip_dues-same one other ([] ∷ more) same = trip_dues-same one other more same
trip_dues-same one other ((ride ∷ given) ∷ more) same =
    rw (dues_after-same one other (ride ∷ []) given same)
    (ap (λ ds. of_ride ride ∷ dues_after one (ride ∷ []) given ++ ds)
    (trip_dues-same one other more same))

-- they have the same taps that may cost something, if they have the same trips
pub same-dues : (one other : CappedRules) (taps : List TapIn) → ArePriced one other
    → trips other.rules taps ≡ trips one.rules taps → dues other taps ≡ dues one taps
unfolding dues
same-dues one other taps same trips-are =
    rw trips-are (trip_dues-same one other (trips one.rules taps) same)
