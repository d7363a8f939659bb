-- What one more tap does to the live taps, the rides and the windows of a list.
use Rattle.std.proofs.Common.{◌≡◌, ℕ, suc, ◌+◌, Bool, true, false, not, ◌&&◌, ◌||◌, cond, List, []}
use Rattle.std.proofs.Common.{◌∷◌, ◌++◌, length, Option, Some, None, refl, sym, ap, ◌∙◌}
use Rattle.std.proofs.Common.{append_assoc, append-nil, nat_lt, is_some, filter, arith}
use Rattle.account_rule.proofs.BlockLemmas.{blocks_by-push, extend, firsts-extend}
use Rattle.account_rule.proofs.BlockLemmas.{last_block-extend, length-push}
use Rattle.account_rule.specs.{Blocks.last_block, Taps.LiveTap, Taps.is_later, Taps.live}
use Rattle.account_rule.specs.{Taps.live_after, Taps.live_tap, TokenRules.TokenRules, Trips.TripEnd}
use Rattle.account_rule.specs.Trips.{continues, ends_in_transfer, last_tap, last_trip, rides}
use Rattle.account_rule.specs.{Trips.trip_of, Trips.trips, Windows.is_within, Windows.windows}
use Rattle.account_rule.specs.{declared.tap.TapIn.TapIn, inside.Kept.gives}
use Rattle.std.proofs.Math.Bool.{and-true}
use Rattle.std.proofs.lemmas.{Bool.lt-ltb, List.Elements.filter-append, List.Folds.list_all-append}
use Rattle.std.specs.{List.list_all, Option.option_to_list}

-- a tap bounds what is later, if it is known
pub is_later-push : (taps : List TapIn) (tap : TapIn) (moment : ℕ)
    → is_later (taps ++ tap ∷ []) moment
    ≡ (is_later taps moment && (not (is_some tap.mode) || nat_lt tap.moment moment))
unfolding is_later
is_later-push taps tap moment =
    rw (filter-append (λ (t : TapIn). is_some t.mode) taps (tap ∷ []), list_all-append)
    (elim (is_some tap.mode) as (λ v.
    (list_all (λ (t : TapIn). nat_lt t.moment moment)
    (filter (λ (t : TapIn). is_some t.mode) taps) && list_all (λ (t : TapIn).
    nat_lt t.moment moment) (cond v (tap ∷ []) []))
    ≡ (list_all (λ (t : TapIn). nat_lt t.moment moment)
    (filter (λ (t : TapIn). is_some t.mode) taps) && (not v || nat_lt tap.moment moment))) [
      | true ↦ ap (λ b. list_all (λ (t : TapIn). nat_lt t.moment moment)
          (filter (λ (t : TapIn). is_some t.mode) taps) && b) (and-true (nat_lt tap.moment moment))
      | false ↦ refl
    ])

live_after-push : (earlier taps : List TapIn) (tap : TapIn)
    → live_after earlier (taps ++ tap ∷ []) ≡ live_after earlier taps
    ++ option_to_list (live_tap (earlier ++ taps) tap)
unfolding live_after
live_after-push earlier [] tap = rw (append-nil earlier) (append-nil _)
live_after-push earlier (first ∷ taps) tap =
    ap (λ more. option_to_list (live_tap earlier first) ++ more)
    (live_after-push (earlier ++ first ∷ []) taps tap
    ∙ rw (append_assoc earlier (first ∷ []) taps) refl)
    ∙ sym (append_assoc (option_to_list (live_tap earlier first)) _ _)

-- the live taps with one tap more
pub live-push : (taps : List TapIn) (tap : TapIn)
    → live (taps ++ tap ∷ []) ≡ live taps ++ option_to_list (live_tap taps tap)
unfolding live
live-push taps tap = live_after-push [] taps tap

-- a tap that is not live changes no trip
-- a tap that is not live leaves the trips as they were
pub trips-same : (rules : TokenRules) (taps : List TapIn) (tap : TapIn) → live_tap taps tap ≡ None
    → trips rules (taps ++ tap ∷ []) ≡ trips rules taps
unfolding trips
trips-same rules taps tap none = rw (live-push taps tap, none, append-nil) refl

-- a tap that is not live leaves the last trip as it was
pub trip-same : (rules : TokenRules) (taps : List TapIn) (tap : TapIn) → live_tap taps tap ≡ None
    → last_trip rules (taps ++ tap ∷ []) ≡ last_trip rules taps
unfolding last_trip
trip-same rules taps tap none = rw (trips-same rules taps tap none) refl

-- a live tap is one of the last trip, or begins one
pub trips-push : (rules : TokenRules) (taps : List TapIn) (tap : TapIn) (shown : LiveTap)
    → live_tap taps tap ≡ Some shown
    → trips rules (taps ++ tap ∷ []) ≡ extend (continues rules.transfers) (trips rules taps) shown
unfolding trips
trips-push rules taps tap shown some =
    rw (live-push taps tap, some) (blocks_by-push (continues rules.transfers) (live taps) shown)

rides-same : (rules : TokenRules) (taps : List TapIn) (tap : TapIn) → live_tap taps tap ≡ None
    → rides rules (taps ++ tap ∷ []) ≡ rides rules taps
unfolding rides
rides-same rules taps tap none = rw (trips-same rules taps tap none) refl

-- a live tap is a ride, unless it is a further tap of its trip
pub rides-push : (rules : TokenRules) (taps : List TapIn) (tap : TapIn) (shown : LiveTap)
    → live_tap taps tap ≡ Some shown
    → rides rules (taps ++ tap ∷ []) ≡ rides rules taps
    ++ cond (ends_in_transfer rules (taps ++ tap ∷ [])) [] (shown ∷ [])
unfolding rides ends_in_transfer
rides-push rules taps tap shown some =
    rw (trips-push rules taps tap shown some)
    (firsts-extend (continues rules.transfers) (trips rules taps) shown)

-- a tap that is not live leaves the windows as they were
pub windows-same : (rules : TokenRules) (taps : List TapIn) (tap : TapIn) → live_tap taps tap ≡ None
    → windows rules (taps ++ tap ∷ []) ≡ windows rules taps
unfolding windows
windows-same rules taps tap none = rw (rides-same rules taps tap none) refl

-- a transfer leaves the windows as they were
pub windows-transfer : (rules : TokenRules) (taps : List TapIn) (tap : TapIn) (shown : LiveTap)
    → live_tap taps tap ≡ Some shown
    → ends_in_transfer rules (taps ++ tap ∷ []) ≡ true
    → windows rules (taps ++ tap ∷ []) ≡ windows rules taps
unfolding windows
windows-transfer rules taps tap shown some transfer =
    rw (rides-push rules taps tap shown some, transfer, append-nil) refl

-- a ride goes on in the last window or opens one
pub windows-ride : (rules : TokenRules) (taps : List TapIn) (tap : TapIn) (shown : LiveTap)
    → live_tap taps tap ≡ Some shown
    → ends_in_transfer rules (taps ++ tap ∷ []) ≡ false
    → windows rules (taps ++ tap ∷ [])
    ≡ extend (is_within rules.until) (windows rules taps) shown
unfolding windows
windows-ride rules taps tap shown some ride =
    rw (rides-push rules taps tap shown some, ride)
    (blocks_by-push (is_within rules.until) (rides rules taps) shown)

-- the end of the trip with one more tap, or of a trip of the tap alone
abbrev pub after_tap : Bool → Option TripEnd → LiveTap → Option TripEnd
after_tap false trip tap = Some (record { ride = tap; last = tap; given = 0 })
after_tap true None tap = None
after_tap true (Some trip) tap =
    Some (record { ride = trip.ride; last = tap; given = trip.given + 1 })

pub last_tap-push : (first : LiveTap) (taps : List LiveTap) (tap : LiveTap)
    → last_tap first (taps ++ tap ∷ []) ≡ tap
unfolding last_tap
last_tap-push first [] tap = refl
last_tap-push first (next ∷ taps) tap = last_tap-push next taps tap

trip_of-if : (b : Bool) (ride : LiveTap) (given : List LiveTap) (tap : LiveTap)
    → trip_of (cond b (ride ∷ (given ++ tap ∷ [])) (tap ∷ []))
    ≡ after_tap b (trip_of (ride ∷ given)) tap
unfolding trip_of last_tap
trip_of-if true ride given tap =
    let long : length (given ++ tap ∷ []) ≡ length given + 1 =
    omega (arith, length-push given tap) in
    rw (last_tap-push ride given tap, long) refl
trip_of-if false ride given tap = refl

trip_of-after : (rules : TokenRules) (trip : List LiveTap) (tap : LiveTap)
    → trip_of (cond (continues rules.transfers trip tap) (trip ++ tap ∷ []) (tap ∷ []))
    ≡ after_tap (gives rules.transfers (trip_of trip) tap) (trip_of trip) tap
unfolding continues gives trip_of last_tap
trip_of-after rules [] tap = refl
trip_of-after rules (ride ∷ given) tap = trip_of-if _ ride given tap

pub longer-if : (b : Bool) (ride : LiveTap) (given : List LiveTap) (tap : LiveTap)
    → nat_lt 1 (length (cond b (ride ∷ (given ++ tap ∷ [])) (tap ∷ []))) ≡ b
longer-if true ride given tap =
    lt-ltb 1 (suc (length (given ++ tap ∷ []))) (omega (arith, length-push given tap))
longer-if false ride given tap = refl

-- a trip with the tap, or the tap alone, has a transfer exactly if the trip gives it one
longer-after : (rules : TokenRules) (trip : List LiveTap) (tap : LiveTap)
    → nat_lt 1 (length (cond (continues rules.transfers trip tap) (trip ++ tap ∷ []) (tap ∷ [])))
    ≡ gives rules.transfers (trip_of trip) tap
unfolding continues gives trip_of
longer-after rules [] tap = refl
longer-after rules (ride ∷ given) tap = longer-if _ ride given tap

-- a live tap is a transfer exactly if the last trip gives it one
pub ends_in_transfer-push : (rules : TokenRules) (taps : List TapIn) (tap : TapIn) (shown : LiveTap)
    → live_tap taps tap ≡ Some shown
    → ends_in_transfer rules (taps ++ tap ∷ []) ≡ gives rules.transfers (last_trip rules taps) shown
unfolding ends_in_transfer last_trip
ends_in_transfer-push rules taps tap shown some =
    rw (
      trips-push rules taps tap shown some,
      last_block-extend (continues rules.transfers) (trips rules taps) shown,
    )
    (longer-after rules (last_block (trips rules taps)) shown)

-- and then it is the last one of that trip
pub trip-push : (rules : TokenRules) (taps : List TapIn) (tap : TapIn) (shown : LiveTap)
    → live_tap taps tap ≡ Some shown
    → last_trip rules (taps ++ tap ∷ [])
    ≡ after_tap (gives rules.transfers (last_trip rules taps) shown) (last_trip rules taps) shown
unfolding last_trip
trip-push rules taps tap shown some =
    rw (
      trips-push rules taps tap shown some,
      last_block-extend (continues rules.transfers) (trips rules taps) shown,
    )
    (trip_of-after rules (last_block (trips rules taps)) shown)

-- the last window, once the list has one more ride
pub last_window-ride : (rules : TokenRules) (taps : List TapIn) (tap : TapIn) (shown : LiveTap)
    → live_tap taps tap ≡ Some shown
    → ends_in_transfer rules (taps ++ tap ∷ []) ≡ false
    → last_block (windows rules (taps ++ tap ∷ []))
    ≡ cond (is_within rules.until (last_block (windows rules taps)) shown)
    (last_block (windows rules taps) ++ shown ∷ []) (shown ∷ [])
last_window-ride rules taps tap shown some ride =
    rw (windows-ride rules taps tap shown some ride)
    (last_block-extend (is_within rules.until) (windows rules taps) shown)
