-- No window of a cap exceeds its ceiling, and the windows add up.
use Rattle.std.proofs.Common.{◌≡◌, ℕ, ◌+◌, ◌-◌, ◌≤◌, true, false, cond, List, [], ◌∷◌, ◌++◌, Option}
use Rattle.std.proofs.Common.{Some, None, refl, sym, ap, ◌∙◌, subst, arith, nat_lt, map, All, inl}
use Rattle.std.proofs.Common.{inr, sum_by, suc}
use Rattle.account_rule.proofs.LimitLemmas.{charged as charged_or_free}
use Rattle.account_rule.specs.{Blocks.blocks_by, Blocks.blocks_from, Taps.LiveTap, Windows.charge}
use Rattle.account_rule.specs.declared.{reason.Charge.Charge, tap.TapIn.TapIn}
use Rattle.fare_caps.proofs.LoweredLemmas.{IsAtMost, lesser-here, lesser-keeps, lowered-le, most-le}
use Rattle.fare_caps.specs.CapStates.{CapStates, after_due, after_ride, at_ride, charge_at}
use Rattle.fare_caps.specs.CapStates.{due_charge, extra_charge, extra_terms, no_rides, ride_charge}
use Rattle.fare_caps.specs.CapStates.{with_charge, with_extra, with_some_extra}
use Rattle.fare_caps.specs.CapWindows.{Charged, all_caps, cents_for, charged, charged_after}
use Rattle.fare_caps.specs.CapWindows.{counted_in, end_by, is_before, is_in, windows_of}
use Rattle.fare_caps.specs.{CapWindows.with_charged, Caps.CapRules, Caps.CappedRules, Caps.counted}
use Rattle.fare_caps.specs.Caps.{each_window, left, no_window, opened, opened_until, window_cap}
use Rattle.fare_caps.specs.Charges.{cap_cents, least_from, lesser, lowered}
use Rattle.fare_caps.specs.Laws.{HasCeiling, KeepsCeiling}
use Rattle.fare_caps.specs.Prices.{Due, due_tap, dues, of_ride, of_transfer}
use Rattle.fare_caps.specs.declared.cap_charge.{CapCharge.CapCharge, CapLeft.CapLeft}
use Rattle.fare_caps.specs.declared.cap_window.CapWindow.{CapWindow}
use Rattle.std.proofs.lemmas.Bool.{cases_Bool, le-ltb, true≢false}
use Rattle.std.proofs.lemmas.List.Elements.{All-cons, All-head, All-nil}
use Rattle.std.proofs.lemmas.List.Sums.{sum_by-cons, sum_by_push}
use Rattle.tap_views.proofs.Lists.{All-back, All-front}
use Rattle.tariffs.specs.declared.terms.Terms.{Terms}

-- ---- each ride costs what a cap leaves at most

-- the window of the cap, at the tap: a ride opens one, if the one before has ended
abbrev due_window : CapRules → CapWindow → Due → CapWindow
due_window cap window (of_ride tap) = opened tap cap window
due_window cap window (of_transfer tap cents) = window

-- the tap, in the cap's window
abbrev in_window : CapRules → CapWindow → Charged → CapWindow
in_window cap window one = due_window cap window one.due

-- the live tap
abbrev tap_of : Charged → LiveTap
tap_of one = due_tap one.due

-- each of the rides costs at most what the cap leaves, if it counts the ride
abbrev Fits : CapRules → CapWindow → List Charged → Type 0
Fits cap window [] = Unit {0}
Fits cap window (one ∷ more) =
    (cap.counts (tap_of one) ≡ true
    → one.cents ≤ cap.ceiling (tap_of one) - (in_window cap window one).cents)
    × Fits cap (counted (tap_of one) one.cents cap (in_window cap window one)) more

abbrev AllFit : List CapRules → List CapWindow → List Charged → Type 0
AllFit [] windows rides = Unit {0}
AllFit (cap ∷ caps) [] rides = Unit {0}
AllFit (cap ∷ caps) (window ∷ windows) rides = Fits cap window rides × AllFit caps windows rides

-- the same of one ride
abbrev AllLeave : ℕ → LiveTap → List CapRules → List CapWindow → Type 0
AllLeave cents ride [] windows = Unit {0}
AllLeave cents ride (cap ∷ caps) [] = Unit {0}
AllLeave cents ride (cap ∷ caps) (window ∷ windows) =
    (cap.counts ride ≡ true → cents ≤ cap.ceiling ride - window.cents)
    × AllLeave cents ride caps windows

least-keeps : (index cents : ℕ) (least : Option CapLeft) (ride : LiveTap) (caps : List CapRules)
    (windows : List CapWindow) → IsAtMost least cents
    → IsAtMost (least_from index least ride caps windows) cents
unfolding least_from
least-keeps index cents least ride [] windows most = most
least-keeps index cents least ride (cap ∷ caps) [] most = most
least-keeps index cents least ride (cap ∷ caps) (window ∷ windows) most =
    least-keeps (suc index) cents (lesser least index (left ride cap window)) ride caps windows
    (lesser-keeps least index (left ride cap window) cents most)

least-here : (index : ℕ) (least : Option CapLeft) (ride : LiveTap) (cap : CapRules)
    (window : CapWindow) → cap.counts ride ≡ true
    → IsAtMost (lesser least index (left ride cap window)) (cap.ceiling ride - window.cents)
unfolding left
least-here index least ride cap window counts = rw counts (lesser-here least index _)

all-leave : (one : Charge) (index : ℕ) (least : Option CapLeft) (ride : LiveTap)
    (caps : List CapRules) (windows : List CapWindow)
    → AllLeave (cap_cents (lowered (least_from index least ride caps windows) one)) ride caps
    windows
unfolding least_from
all-leave one index least ride [] windows = tt
all-leave one index least ride (cap ∷ caps) [] = tt
all-leave one index least ride (cap ∷ caps) (window ∷ windows) = (
  λ counts. most-le _ (cap.ceiling ride - window.cents) one
      (least-keeps (suc index) (cap.ceiling ride - window.cents) _ ride caps windows
      (least-here index least ride cap window counts)),
  all-leave one (suc index) (lesser least index (left ride cap window)) ride caps windows,
)

-- one ride and those after it
all-fit : (ride : LiveTap) (cents : ℕ) (caps : List CapRules) (windows : List CapWindow)
    (more : List Charged)
    → AllLeave cents ride caps (each_window (opened ride) caps windows)
    → AllFit caps (each_window (counted ride cents) caps (each_window (opened ride) caps windows))
    more
    → AllFit caps windows (record { due = of_ride ride; cents = cents } ∷ more)
unfolding each_window
all-fit ride cents [] windows more leave fit = tt
all-fit ride cents (cap ∷ caps) [] more leave fit = tt
all-fit ride cents (cap ∷ caps) (window ∷ windows) more leave fit =
    ((leave.0, fit.0), all-fit ride cents caps windows more leave.1 fit.1)

-- the same of a transfer and those after it
transfer-fit : (tap : LiveTap) (extra cents : ℕ) (caps : List CapRules) (windows : List CapWindow)
    (more : List Charged)
    → AllLeave cents tap caps windows
    → AllFit caps (each_window (counted tap cents) caps windows) more
    → AllFit caps windows (record { due = of_transfer tap extra; cents = cents } ∷ more)
unfolding each_window
transfer-fit tap extra cents [] windows more leave fit = tt
transfer-fit tap extra cents (cap ∷ caps) [] more leave fit = tt
transfer-fit tap extra cents (cap ∷ caps) (window ∷ windows) more leave fit =
    ((leave.0, fit.0), transfer-fit tap extra cents caps windows more leave.1 fit.1)

within-terms : (least : Option CapLeft) (terms : Terms) (rides cents : ℕ)
    → cap_cents (lowered least (charge terms rides cents)) ≤ terms.ceiling - cents
within-terms least terms rides cents =
    elim (charged_or_free terms rides cents) [
      | inl free ↦ omega (arith, free.cost, lowered-le least (charge terms rides cents))
      | inr paid ↦ omega (arith, paid.cost, lowered-le least (charge terms rides cents))
    ]

within-window : (capped : CappedRules) (ride : LiveTap) (states : CapStates)
    → cap_cents (charge_at capped ride states)
    ≤ (capped.rules.terms ride).ceiling - states.window.cents
unfolding charge_at
within-window capped ride states =
    within-terms (least_from 0 None ride capped.caps states.caps) (capped.rules.terms ride)
    states.rides states.window.cents

leave-at : (capped : CappedRules) (ride : LiveTap) (states : CapStates)
    → AllLeave (cap_cents (charge_at capped ride states)) ride capped.caps states.caps
unfolding charge_at
leave-at capped ride states = all-leave _ 0 None ride capped.caps states.caps

-- all taps fit
abbrev AreFit : CappedRules → CapStates → List Charged → Type 0
AreFit capped states taps =
    Fits (window_cap capped.rules) states.window taps × AllFit capped.caps states.caps taps

-- what decides the cents of a transfer that is not free
abbrev transfer_cents : CappedRules → CapStates → LiveTap → ℕ → CapCharge
transfer_cents capped states tap cents =
    lowered (least_from 0 None tap capped.caps states.caps)
    (charge (extra_terms (capped.rules.terms tap) cents) 0 states.window.cents)

some-fit : (capped : CappedRules) (states : CapStates) (tap : LiveTap) (cents : ℕ)
    (more : List Charged)
    → AreFit capped (with_extra capped tap (transfer_cents capped states tap cents) states) more
    → AreFit capped states (record {
      due = of_transfer tap cents;
      cents = cap_cents (transfer_cents capped states tap cents);
    } ∷ more)
unfolding with_extra window_cap
some-fit capped states tap cents more fit = (
  (
    λ counts. within-terms (least_from 0 None tap capped.caps states.caps)
        (extra_terms (capped.rules.terms tap) cents) 0 states.window.cents,
    fit.0,
  ),
  transfer-fit tap cents (cap_cents (transfer_cents capped states tap cents)) capped.caps
      states.caps more (all-leave _ 0 None tap capped.caps states.caps) fit.1,
)

none-fit : (caps : List CapRules) (windows : List CapWindow) → AllFit caps windows []
none-fit [] windows = tt
none-fit (cap ∷ caps) [] = tt
none-fit (cap ∷ caps) (window ∷ windows) = (tt, none-fit caps windows)

ride-fit : (capped : CappedRules) (states : CapStates) (ride : LiveTap) (more : List Charged)
    → AreFit capped (after_ride capped states ride) more
    → AreFit capped states (record {
      due = of_ride ride;
      cents = cap_cents (ride_charge capped states ride);
    } ∷ more)
unfolding ride_charge after_ride with_charge at_ride window_cap
ride-fit capped states ride more fit =
    let inside = at_ride capped ride states in
    let one = charge_at capped ride inside in (
      (λ counts. within-window capped ride inside, fit.0),
      all-fit ride (cap_cents one) capped.caps states.caps more (leave-at capped ride inside) fit.1,
    )

pub taps-fit : (capped : CappedRules) (states : CapStates) (dues : List Due)
    → AreFit capped states (charged_after capped states dues)
unfolding charged_after due_charge after_due extra_charge
taps-fit capped states [] = (tt, none-fit capped.caps states.caps)
taps-fit capped states (of_ride ride ∷ more) =
    ride-fit capped states ride (charged_after capped (after_ride capped states ride) more)
    (taps-fit capped (after_ride capped states ride) more)
taps-fit capped states (of_transfer tap cents ∷ more) =
    let charge = transfer_cents capped states tap cents in
    elim states.freed as (λ v.
    AreFit capped states (with_charged (of_transfer tap cents) (cond v None (Some charge))
    (charged_after capped (with_some_extra capped tap (cond v None (Some charge)) states) more))) [
      | true ↦ taps-fit capped states more
      | false ↦ some-fit capped states tap cents
          (charged_after capped (with_extra capped tap charge states) more)
          (taps-fit capped (with_extra capped tap charge states) more)
    ]

-- ---- the windows of one cap

-- the start of a window that the tap begins: a transfer begins none
abbrev start_by : Due → ℕ
start_by (of_ride tap) = tap.moment
start_by (of_transfer tap cents) = 0

-- what a window says
unfoldable said : CapRules → List Charged → CapWindow
said cap [] = no_window
said cap (first ∷ window) = record {
  start = start_by first.due;
  until = end_by cap first.due;
  cents = counted_in cap (first ∷ window);
}

counted-push : (cap : CapRules) (window : List Charged) (one : Charged)
    → counted_in cap (window ++ one ∷ []) ≡ counted_in cap window + cents_for cap one
unfolding counted_in
counted-push cap window one = sum_by_push (cents_for cap) window one

counted-one : (cap : CapRules) (one : Charged) → counted_in cap (one ∷ []) ≡ cents_for cap one
unfolding counted_in
counted-one cap one =
    sum_by-cons (cents_for cap) one [] ∙ omega arith

-- a ride in a window, or in one of its own
abbrev with_one : CapRules → List Charged → Charged → List Charged
with_one cap window one = cond (is_in cap window one) (window ++ one ∷ []) (one ∷ [])

-- a window of these numbers
abbrev window_with : ℕ → ℕ → ℕ → CapWindow
window_with start until cents = record { start = start; until = until; cents = cents }

-- the window with one more tap
abbrev counted_here : CapRules → Charged → CapWindow → CapWindow
counted_here cap one window =
    window_with window.start window.until (window.cents + cents_for cap one)

said-by : (cap : CapRules) (first : Charged) (window : List Charged) (due : Due) (cents : ℕ)
    → counted (due_tap due) cents cap (due_window cap (said cap (first ∷ window)) due)
    ≡ said cap (with_one cap (first ∷ window) (record { due = due; cents = cents }))
unfolding said counted opened opened_until is_in
said-by cap first window (of_ride tap) cents =
    let one : Charged = record { due = of_ride tap; cents = cents } in
    elim (nat_lt tap.moment (end_by cap first.due)) as (λ v.
    counted_here cap one (cond v (window_with (start_by first.due) (end_by cap first.due)
    (counted_in cap (first ∷ window))) (window_with tap.moment (cap.until tap.moment) 0))
    ≡ said cap (cond v (first ∷ (window ++ one ∷ [])) (one ∷ []))) [
      | true ↦ ap (window_with (start_by first.due) (end_by cap first.due))
          (sym (counted-push cap (first ∷ window) one))
      | false ↦ ap (window_with tap.moment (cap.until tap.moment))
          (omega (arith, counted-one cap one))
    ]
said-by cap first window (of_transfer tap extra) cents =
    ap (window_with (start_by first.due) (end_by cap first.due))
    (sym (counted-push cap (first ∷ window)
    (record { due = of_transfer tap extra; cents = cents })))

said-one : (cap : CapRules) (first : Charged) (window : List Charged) (one : Charged)
    → counted (tap_of one) one.cents cap (in_window cap (said cap (first ∷ window)) one)
    ≡ said cap (with_one cap (first ∷ window) one)
said-one cap first window one = said-by cap first window one.due one.cents

-- the window is within a ceiling that no ceiling of its rides is above
abbrev IsWithin : CapRules → ℕ → List Charged → Type 0
IsWithin cap ceiling window =
    All (HasCeiling cap ceiling) window → counted_in cap window ≤ ceiling

within-push : (cap : CapRules) (ceiling : ℕ) (window : List Charged) (one : Charged)
    → (cap.counts (tap_of one) ≡ true → one.cents ≤ cap.ceiling (tap_of one) - counted_in cap window)
    → IsWithin cap ceiling window → IsWithin cap ceiling (window ++ one ∷ [])
within-push cap ceiling window one leaves within all =
    let low = within (All-front (HasCeiling cap ceiling) window (one ∷ []) all) in
    elim (cases_Bool (cap.counts (tap_of one))) [
      | inl counts ↦
          let high : cap.ceiling (tap_of one) ≤ ceiling =
          All-head (HasCeiling cap ceiling) one []
          (All-back (HasCeiling cap ceiling) window (one ∷ []) all) counts in
          rw (counted-push cap window one, counts)
          (omega (arith, leaves counts, low, high))
      | inr not ↦ rw (counted-push cap window one, not) (omega (arith, low))
    ]

-- what the window of a tap has counted before it
in-joins : (cap : CapRules) (first : Charged) (window : List Charged) (due : Due)
    → is_before (end_by cap first.due) due ≡ true
    → (due_window cap (said cap (first ∷ window)) due).cents ≡ counted_in cap (first ∷ window)
unfolding said opened opened_until
in-joins cap first window (of_ride tap) joins = rw joins refl
in-joins cap first window (of_transfer tap extra) joins = refl

in-apart : (cap : CapRules) (first : Charged) (window : List Charged) (due : Due)
    → is_before (end_by cap first.due) due ≡ false
    → (due_window cap (said cap (first ∷ window)) due).cents ≡ 0
unfolding said opened opened_until
in-apart cap first window (of_ride tap) apart = rw apart refl
in-apart cap first window (of_transfer tap extra) apart = absurd (true≢false apart)

within-none : (cap : CapRules) (ceiling : ℕ) → IsWithin cap ceiling []
unfolding counted_in
within-none cap ceiling = λ all. omega arith

none-counted : (cap : CapRules) → counted_in cap [] ≡ 0
unfolding counted_in
none-counted cap = refl

within-one : (cap : CapRules) (ceiling : ℕ) (one : Charged)
    → (cap.counts (tap_of one) ≡ true → one.cents ≤ cap.ceiling (tap_of one))
    → IsWithin cap ceiling (one ∷ [])
within-one cap ceiling one leaves =
    within-push cap ceiling [] one
    (λ counts. omega (arith, leaves counts, none-counted cap)) (within-none cap ceiling)

blocks-within : (cap : CapRules) (ceiling : ℕ) (first : Charged) (window rides : List Charged)
    → Fits cap (said cap (first ∷ window)) rides → IsWithin cap ceiling (first ∷ window)
    → All (IsWithin cap ceiling) (blocks_from (is_in cap) (first ∷ window) rides)
unfolding blocks_from is_in
blocks-within cap ceiling first window [] fits within =
    All-cons (IsWithin cap ceiling) (first ∷ window) [] within (All-nil (IsWithin cap ceiling))
blocks-within cap ceiling first window (one ∷ more) fits within =
    elim (cases_Bool (is_in cap (first ∷ window) one)) [
      | inl joins ↦
          let same : counted (tap_of one) one.cents cap (in_window cap (said cap (first ∷ window)) one)
          ≡ said cap (first ∷ (window ++ one ∷ [])) =
          said-one cap first window one
          ∙ ap (λ b. said cap (cond b (first ∷ (window ++ one ∷ [])) (one ∷ []))) joins in
          rw joins (blocks-within cap ceiling first (window ++ one ∷ []) more
          (subst (λ w. Fits cap w more) same fits.1)
          (within-push cap ceiling (first ∷ window) one
          (λ counts. omega (arith, fits.0 counts, in-joins cap first window one.due joins)) within))
      | inr apart ↦
          let same : counted (tap_of one) one.cents cap (in_window cap (said cap (first ∷ window)) one)
          ≡ said cap (one ∷ []) =
          said-one cap first window one
          ∙ ap (λ b. said cap (cond b (first ∷ (window ++ one ∷ [])) (one ∷ []))) apart in
          rw apart (All-cons (IsWithin cap ceiling) (first ∷ window) _ within
          (blocks-within cap ceiling one [] more
          (subst (λ w. Fits cap w more) same fits.1)
          (within-one cap ceiling one
          (λ counts. omega (arith, fits.0 counts, in-apart cap first window one.due apart)))))
    ]

fresh-window : (cap : CapRules) (due : Due)
    → due_window cap no_window due
    ≡ record { start = start_by due; until = end_by cap due; cents = 0 }
unfolding opened opened_until no_window
fresh-window cap (of_ride tap) =
    let past : nat_lt tap.moment 0 ≡ false = le-ltb tap.moment 0 (omega arith) in
    rw past refl
fresh-window cap (of_transfer tap extra) = refl

fresh-said : (cap : CapRules) (one : Charged)
    → counted (tap_of one) one.cents cap (in_window cap no_window one) ≡ said cap (one ∷ [])
unfolding counted said
fresh-said cap one =
    rw (fresh-window cap one.due)
    (ap (window_with (start_by one.due) (end_by cap one.due))
    (omega (arith, counted-one cap one)))

windows-within : (cap : CapRules) (rides : List Charged) → Fits cap no_window rides
    → KeepsCeiling rides cap
unfolding windows_of blocks_by
windows-within cap [] fits = λ ceiling. All-nil (IsWithin cap ceiling)
windows-within cap (one ∷ more) fits =
    λ ceiling. blocks-within cap ceiling one [] more
    (subst (λ w. Fits cap w more) (fresh-said cap one) fits.1)
    (within-one cap ceiling one
    (λ counts. omega
    (arith, fits.0 counts, ap (λ (w : CapWindow). w.cents) (fresh-window cap one.due))))

each-within : (caps : List CapRules) (rides : List Charged)
    → AllFit caps (map (λ cap. no_window) caps) rides → All (KeepsCeiling rides) caps
each-within [] rides fit = All-nil (KeepsCeiling rides)
each-within (cap ∷ caps) rides fit =
    All-cons (KeepsCeiling rides) cap caps (windows-within cap rides fit.0)
    (each-within caps rides fit.1)

pub keep-ceilings : (capped : CappedRules) (taps : List TapIn)
    → All (KeepsCeiling (charged capped taps)) (all_caps capped)
unfolding charged no_rides
keep-ceilings capped taps =
    let fit = taps-fit capped (no_rides capped) (dues capped taps) in
    All-cons (KeepsCeiling (charged capped taps)) (window_cap capped.rules) capped.caps
    (windows-within (window_cap capped.rules) (charged capped taps) fit.0)
    (each-within capped.caps (charged capped taps) fit.1)

-- ---- sums
blocks-sum : (cap : CapRules) (window rides : List Charged)
    → sum_by (counted_in cap) (blocks_from (is_in cap) window rides)
    ≡ counted_in cap window + sum_by (cents_for cap) rides
unfolding blocks_from
blocks-sum cap window [] =
    sum_by-cons (counted_in cap) window []
blocks-sum cap window (one ∷ more) =
    elim (cases_Bool (is_in cap window one)) [
      | inl joins ↦ rw joins (omega (
        arith,
        blocks-sum cap (window ++ one ∷ []) more,
        counted-push cap window one,
        sum_by-cons (cents_for cap) one more,
      ))
      | inr apart ↦ rw apart (omega (
        arith,
        sum_by-cons (counted_in cap) window (blocks_from (is_in cap) (one ∷ []) more),
        blocks-sum cap (one ∷ []) more,
        counted-one cap one,
        sum_by-cons (cents_for cap) one more,
      ))
    ]

pub windows-sum : (cap : CapRules) (rides : List Charged)
    → sum_by (counted_in cap) (windows_of cap rides) ≡ sum_by (cents_for cap) rides
unfolding windows_of blocks_by
windows-sum cap [] = refl
windows-sum cap (one ∷ more) =
    omega (
      arith,
      blocks-sum cap (one ∷ []) more,
      counted-one cap one,
      sum_by-cons (cents_for cap) one more,
    )
