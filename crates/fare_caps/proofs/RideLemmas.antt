-- What one more tap makes of the trips, by why it is answered as it is.
use Rattle.std.proofs.Common.{◌≡◌, Bool, true, false, cond, List, [], ◌∷◌, ◌++◌, Some, None, length}
use Rattle.std.proofs.Common.{nat_lt, refl, sym, ap, ◌∙◌, ⊎_elim}
use Rattle.account_rule.proofs.{BlockLemmas.last_block-extend, ReasonLemmas.reason_live}
use Rattle.account_rule.proofs.ReasonLemmas.{reason_stale, reason_transfer, reason_unknown}
use Rattle.account_rule.proofs.StepLemmas.{is_live, not_known, not_later}
use Rattle.account_rule.proofs.TapLemmas.{last_window-ride, longer-if, trips-push, trips-same}
use Rattle.account_rule.proofs.WindowLemmas.{after_ride as after_window}
use Rattle.account_rule.specs.{Blocks.last_block, Reasons.given_by, Reasons.latest}
use Rattle.account_rule.specs.{Reasons.live_reason, Reasons.reason, Reasons.ride_of, Taps.LiveTap}
use Rattle.account_rule.specs.{Taps.is_later, Taps.live_at, Taps.live_tap, TokenRules.TokenRules}
use Rattle.account_rule.specs.Trips.{continues, ends_in_transfer, last_trip, trip_of, trips}
use Rattle.account_rule.specs.{Windows.windows, declared.reason.Reason.Reason}
use Rattle.account_rule.specs.declared.reason.Reason.TheVariants.{Ride, Stale, Transfer, Unknown}
use Rattle.account_rule.specs.declared.tap.TapIn.{TapIn}
use Rattle.std.proofs.lemmas.Bool.{cases_Bool, true≢false}
use Rattle.tariffs.specs.declared.mode.Mode.{Mode}

-- whether the reason is that of a live tap
abbrev pub is_of_live : Reason → Bool
is_of_live Unknown = false
is_of_live (Stale latest) = false
is_of_live (Transfer moment mode) = true
is_of_live (Ride start until charge) = true

-- the last trip
abbrev pub trip_before : TokenRules → List TapIn → List LiveTap
trip_before rules taps = last_block (trips rules taps)

-- what one more tap makes of the trips, and why it is answered as it is
pub data Tapped (rules : TokenRules) (taps : List TapIn) (tap : TapIn) : Type 0 where
  is_free : is_of_live (reason rules taps tap) ≡ false
      → trips rules (taps ++ tap ∷ []) ≡ trips rules taps → Tapped rules taps tap
  is_transfer : (mode : Mode) → tap.mode ≡ Some mode
      → live_tap taps tap ≡ Some (live_at tap.moment mode)
      → continues rules.transfers (trip_before rules taps) (live_at tap.moment mode) ≡ true
      → (ride : LiveTap) (given : List LiveTap) → trip_before rules taps ≡ ride ∷ given
      → reason rules taps tap ≡ Transfer ride.moment ride.mode
      → Tapped rules taps tap
  is_ride : (mode : Mode) → tap.mode ≡ Some mode
      → live_tap taps tap ≡ Some (live_at tap.moment mode)
      → continues rules.transfers (trip_before rules taps) (live_at tap.moment mode) ≡ false
      → reason rules taps tap
      ≡ ride_of rules
      (after_window rules (last_block (windows rules taps)) (live_at tap.moment mode))
      → Tapped rules taps tap

-- a tap that is not live is in no trip
not-live : (rules : TokenRules) (taps : List TapIn) (tap : TapIn)
    → is_of_live (reason rules taps tap) ≡ false → live_tap taps tap ≡ None
    → Tapped rules taps tap
not-live rules taps tap free none = is_free free (trips-same rules taps tap none)

-- the last trip, once the list has one more live tap
pub trip-push : (rules : TokenRules) (taps : List TapIn) (tap : TapIn) (shown : LiveTap)
    → live_tap taps tap ≡ Some shown
    → trip_before rules (taps ++ tap ∷ [])
    ≡ cond (continues rules.transfers (trip_before rules taps) shown)
    (trip_before rules taps ++ shown ∷ []) (shown ∷ [])
trip-push rules taps tap shown some =
    ap last_block (trips-push rules taps tap shown some)
    ∙ last_block-extend (continues rules.transfers) (trips rules taps) shown

longer : (rules : TokenRules) (trip : List LiveTap) (tap : LiveTap)
    → nat_lt 1 (length (cond (continues rules.transfers trip tap) (trip ++ tap ∷ []) (tap ∷ [])))
    ≡ continues rules.transfers trip tap
unfolding continues
longer rules [] tap = refl
longer rules (ride ∷ given) tap = longer-if _ ride given tap

-- the tap is a transfer exactly if it continues the last trip
ends : (rules : TokenRules) (taps : List TapIn) (tap : TapIn) (shown : LiveTap)
    → live_tap taps tap ≡ Some shown
    → ends_in_transfer rules (taps ++ tap ∷ [])
    ≡ continues rules.transfers (trip_before rules taps) shown
unfolding ends_in_transfer
ends rules taps tap shown some =
    rw (trip-push rules taps tap shown some) (longer rules (trip_before rules taps) shown)

ride-in : (rules : TokenRules) (earlier taps : List TapIn) (window : List LiveTap)
    → ends_in_transfer rules taps ≡ false → last_block (windows rules taps) ≡ window
    → live_reason rules earlier taps ≡ ride_of rules window
unfolding live_reason
ride-in rules earlier taps window ends is = rw (ends, is) refl

-- what gives a transfer of the trip
given-by : (rules : TokenRules) (taps : List TapIn) (ride : LiveTap) (given : List LiveTap)
    → trip_before rules taps ≡ ride ∷ given
    → given_by (last_trip rules taps) ≡ Transfer ride.moment ride.mode
unfolding last_trip trip_of given_by
given-by rules taps ride given is = rw is refl

transfer-tapped : (rules : TokenRules) (taps : List TapIn) (tap : TapIn) (mode : Mode)
    → tap.mode ≡ Some mode → is_later taps tap.moment ≡ true
    → live_tap taps tap ≡ Some (live_at tap.moment mode)
    → continues rules.transfers (trip_before rules taps) (live_at tap.moment mode) ≡ true
    → (trip : List LiveTap) → trip_before rules taps ≡ trip → Tapped rules taps tap
unfolding continues
transfer-tapped rules taps tap mode known later shown joins [] is =
    absurd (true≢false (sym joins
    ∙ ap (λ trip. continues rules.transfers trip (live_at tap.moment mode)) is))
transfer-tapped rules taps tap mode known later shown joins (ride ∷ given) is =
    is_transfer mode known shown joins ride given is
    (reason_live rules taps tap mode known later
    ∙ reason_transfer rules taps (taps ++ tap ∷ []) (ends rules taps tap _ shown ∙ joins)
    ∙ given-by rules taps ride given is)

live-tapped : (rules : TokenRules) (taps : List TapIn) (tap : TapIn) (mode : Mode)
    → tap.mode ≡ Some mode → is_later taps tap.moment ≡ true
    → live_tap taps tap ≡ Some (live_at tap.moment mode)
    → Tapped rules taps tap
live-tapped rules taps tap mode known later shown = ⊎_elim
    (λ (joins : continues rules.transfers (trip_before rules taps) (live_at tap.moment mode)
    ≡ true).
    transfer-tapped rules taps tap mode known later shown joins (trip_before rules taps) refl)
    (λ (apart : continues rules.transfers (trip_before rules taps) (live_at tap.moment mode)
    ≡ false).
    let no-transfer = ends rules taps tap _ shown ∙ apart in
    is_ride mode known shown apart
    (reason_live rules taps tap mode known later
    ∙ ride-in rules taps (taps ++ tap ∷ []) _ no-transfer
    (last_window-ride rules taps tap _ shown no-transfer)))
    (cases_Bool (continues rules.transfers (trip_before rules taps) (live_at tap.moment mode)))

pub tapped : (rules : TokenRules) (taps : List TapIn) (tap : TapIn) → Tapped rules taps tap
tapped rules taps tap = elim tap.mode as (λ mode. tap.mode ≡ mode → Tapped rules taps tap) [
  | None ↦ λ none. not-live rules taps tap (ap is_of_live (reason_unknown rules taps tap none))
      (not_known taps tap none)
  | Some mode ↦ λ known. ⊎_elim
      (λ (later : is_later taps tap.moment ≡ true).
      live-tapped rules taps tap mode known later (is_live taps tap mode known later))
      (λ (stale : is_later taps tap.moment ≡ false).
      not-live rules taps tap (ap is_of_live (reason_stale rules taps tap mode known stale))
      (not_later taps tap stale))
      (cases_Bool (is_later taps tap.moment))
] refl
