-- One more cap never costs more, if all caps count all modes.
use Rattle.std.proofs.Common.{◌≡◌, ℕ, suc, ◌+◌, ◌-◌, ◌≤◌, ◌==◌, Bool, true, false, cond, List, []}
use Rattle.std.proofs.Common.{◌∷◌, Option, Some, None, refl, sym, ap, ◌∙◌, subst, inl, inr, arith}
use Rattle.std.proofs.Common.{min, nat_le, nat_lt, All, map, sum_by}
use Rattle.account_rule.proofs.LimitLemmas.{charged as charged_or_free}
use Rattle.account_rule.specs.{Taps.LiveTap, Windows.charge, Windows.charged_by}
use Rattle.account_rule.specs.declared.reason.Charge.{Charge}
use Rattle.account_rule.specs.declared.reason.Charge.TheVariants.{CeilingCut, CeilingReached, Full}
use Rattle.account_rule.specs.declared.{reason.Charge.TheVariants.RideLimitReached, tap.TapIn.TapIn}
use Rattle.fare_caps.proofs.{BillLemmas.cents_of, BillLemmas.rides-bill, PriceLemmas.same-dues}
use Rattle.fare_caps.specs.CapStates.{CapStates, after_due, after_ride, at_ride, charge_at}
use Rattle.fare_caps.specs.CapStates.{due_charge, extra_charge, extra_terms, no_rides, ride_charge}
use Rattle.fare_caps.specs.CapStates.{with_charge, with_extra, with_some_extra}
use Rattle.fare_caps.specs.CapWindows.{Charged, charged, charged_after, with_charged}
use Rattle.fare_caps.specs.{CappedReplies.capped_replies, Caps.CapRules, Caps.CappedRules}
use Rattle.fare_caps.specs.Caps.{counted, each_window, left, no_window, opened, opened_until}
use Rattle.fare_caps.specs.{Caps.window_cap, Charges.cap_cents}
use Rattle.fare_caps.specs.Charges.{is_freed, is_freed_by, least_from, lesser, lowered, lowered_by}
use Rattle.fare_caps.specs.{Laws.CountsAll, Laws.with_cap, Prices.Due, Prices.dues, Prices.of_ride}
use Rattle.fare_caps.specs.{Prices.of_transfer, declared.cap_charge.CapCharge.CapCharge}
use Rattle.fare_caps.specs.declared.cap_charge.CapCharge.TheVariants.{ByWindow, CapCut, CapReached}
use Rattle.fare_caps.specs.declared.{cap_charge.CapLeft.CapLeft, cap_window.CapWindow.CapWindow}
use Rattle.std.proofs.lemmas.Bool.{cases_Bool, eqb-true, ltb-false, ltb-true}
use Rattle.std.proofs.lemmas.List.{Elements.All-head, Elements.All-tail, Sums.sum_by-cons}
use Rattle.tariffs.specs.declared.terms.Terms.{Terms}

-- ---- a lowered charge is the least of the charge and of what is left
by-min : (one : Charge) (position cents : ℕ) (least : CapLeft) → charged_by one ≡ cents
    → cap_cents (lowered_by one position cents (Some least)) ≡ min cents least.cents
by-min one position cents least is =
    elim (cases_Bool (least.cents == 0)) [
      | inl zero ↦ rw zero (omega (arith, eqb-true least.cents 0 zero))
      | inr some ↦ elim (cases_Bool (nat_lt least.cents cents)) [
        | inl less ↦ rw (some, less) (omega (arith, ltb-true least.cents cents less))
        | inr more ↦ rw (some, more) (omega (arith, is, ltb-false least.cents cents more))
      ]
    ]

lowered-min : (least : CapLeft) (one : Charge)
    → cap_cents (lowered (Some least) one) ≡ min (charged_by one) least.cents
lowered-min least (Full position cents) = by-min (Full position cents) position cents least refl
lowered-min least (CeilingCut position cents) =
    by-min (CeilingCut position cents) position cents least refl
lowered-min least (CeilingReached position) = omega arith
lowered-min least RideLimitReached = omega arith

lowered-none : (one : Charge) → cap_cents (lowered None one) ≡ charged_by one
lowered-none (Full position cents) = refl
lowered-none (CeilingCut position cents) = refl
lowered-none (CeilingReached position) = refl
lowered-none RideLimitReached = refl

lesser-min : (least : Option CapLeft) (index cents : ℕ) (one : Charge)
    → cap_cents (lowered (lesser least index (Some cents)) one)
    ≡ min (cap_cents (lowered least one)) cents
lesser-min None index cents one =
    omega (arith, lowered-min (record { cents = cents; cap = index }) one, lowered-none one)
lesser-min (Some least) index cents one =
    elim (cases_Bool (nat_lt cents least.cents)) [
      | inl less ↦ rw less (omega (
        arith,
        ltb-true cents least.cents less,
        lowered-min (record { cents = cents; cap = index }) one,
        lowered-min least one,
      ))
      | inr more ↦ rw more
          (omega (arith, ltb-false cents least.cents more, lowered-min least one))
    ]

-- the least of the cents and of what the caps leave
abbrev lefts : LiveTap → ℕ → List CapRules → List CapWindow → ℕ
lefts ride cents [] windows = cents
lefts ride cents (cap ∷ caps) [] = cents
lefts ride cents (cap ∷ caps) (window ∷ windows) =
    lefts ride (min cents (cap.ceiling ride - window.cents)) caps windows

left-all : (ride : LiveTap) (cap : CapRules) (window : CapWindow) → CountsAll cap
    → left ride cap window ≡ Some (cap.ceiling ride - window.cents)
unfolding left
left-all ride cap window all = rw (all ride) refl

cost : (index : ℕ) (least : Option CapLeft) (ride : LiveTap) (caps : List CapRules)
    (windows : List CapWindow) (one : Charge) → All CountsAll caps
    → cap_cents (lowered (least_from index least ride caps windows) one)
    ≡ lefts ride (cap_cents (lowered least one)) caps windows
unfolding least_from
cost index least ride [] windows one all = refl
cost index least ride (cap ∷ caps) [] one all = refl
cost index least ride (cap ∷ caps) (window ∷ windows) one all =
    let one_more : cap_cents (lowered (lesser least index (left ride cap window)) one)
    ≡ min (cap_cents (lowered least one)) (cap.ceiling ride - window.cents) =
    rw (left-all ride cap window (All-head CountsAll cap caps all))
    (lesser-min least index (cap.ceiling ride - window.cents) one) in
    cost (suc index) (lesser least index (left ride cap window)) ride caps windows one
    (All-tail CountsAll cap caps all)
    ∙ ap (λ n. lefts ride n caps windows) one_more

-- ---- two accounts: one has cost as much or more, and so before each window
abbrev IsAhead : ℕ → ℕ → CapWindow → CapWindow → Type 0
IsAhead dear cheap one other =
    (one.until ≡ other.until) × (cheap + one.cents ≤ dear + other.cents)

abbrev AreAhead : ℕ → ℕ → List CapRules → List CapWindow → List CapWindow → Type 0
AreAhead dear cheap [] ones others = Unit {0}
AreAhead dear cheap (cap ∷ caps) [] [] = Unit {0}
AreAhead dear cheap (cap ∷ caps) [] (other ∷ others) = ⊥
AreAhead dear cheap (cap ∷ caps) (one ∷ ones) [] = ⊥
AreAhead dear cheap (cap ∷ caps) (one ∷ ones) (other ∷ others) =
    IsAhead dear cheap one other × AreAhead dear cheap caps ones others

opened-ahead : (dear cheap moment until : ℕ) (one other : CapWindow) → cheap ≤ dear
    → IsAhead dear cheap one other
    → IsAhead dear cheap (opened_until moment until one) (opened_until moment until other)
unfolding opened_until
opened-ahead dear cheap moment until one other bill ahead =
    elim (cases_Bool (nat_lt moment one.until)) [
      | inl before ↦
          let also : nat_lt moment other.until ≡ true = rw (← ahead.0) before in
          rw (before, also) ahead
      | inr past ↦
          let also : nat_lt moment other.until ≡ false = rw (← ahead.0) past in
          rw (past, also) (refl, omega (arith, bill))
    ]

all-opened : (dear cheap : ℕ) (ride : LiveTap) (caps : List CapRules) (ones others : List CapWindow)
    → cheap ≤ dear → AreAhead dear cheap caps ones others
    → AreAhead dear cheap caps (each_window (opened ride) caps ones)
    (each_window (opened ride) caps others)
unfolding each_window opened
all-opened dear cheap ride [] ones others bill ahead = tt
all-opened dear cheap ride (cap ∷ caps) [] [] bill ahead = tt
all-opened dear cheap ride (cap ∷ caps) [] (other ∷ others) bill ahead = absurd ahead
all-opened dear cheap ride (cap ∷ caps) (one ∷ ones) [] bill ahead = absurd ahead
all-opened dear cheap ride (cap ∷ caps) (one ∷ ones) (other ∷ others) bill ahead = (
  opened-ahead dear cheap ride.moment (cap.until ride.moment) one other bill ahead.0,
  all-opened dear cheap ride caps ones others bill ahead.1,
)

counted-ahead : (dear cheap more less : ℕ) (ride : LiveTap) (cap : CapRules) (one other : CapWindow)
    → CountsAll cap → IsAhead dear cheap one other
    → IsAhead (dear + more) (cheap + less) (counted ride more cap one) (counted ride less cap other)
unfolding counted
counted-ahead dear cheap more less ride cap one other all ahead =
    rw (all ride) (ahead.0, omega (arith, ahead.1))

all-counted : (dear cheap more less : ℕ) (ride : LiveTap) (caps : List CapRules)
    (ones others : List CapWindow) → All CountsAll caps → AreAhead dear cheap caps ones others
    → AreAhead (dear + more) (cheap + less) caps (each_window (counted ride more) caps ones)
    (each_window (counted ride less) caps others)
unfolding each_window
all-counted dear cheap more less ride [] ones others all ahead = tt
all-counted dear cheap more less ride (cap ∷ caps) [] [] all ahead = tt
all-counted dear cheap more less ride (cap ∷ caps) [] (other ∷ others) all ahead = absurd ahead
all-counted dear cheap more less ride (cap ∷ caps) (one ∷ ones) [] all ahead = absurd ahead
all-counted dear cheap more less ride (cap ∷ caps) (one ∷ ones) (other ∷ others) all ahead = (
  counted-ahead dear cheap more less ride cap one other (All-head CountsAll cap caps all) ahead.0,
  all-counted dear cheap more less ride caps ones others (All-tail CountsAll cap caps all) ahead.1,
)

-- ---- what the ride costs in both
by-window : (terms : Terms) (rides dear cheap one other : ℕ) → cheap ≤ dear
    → cheap + one ≤ dear + other
    → cheap + charged_by (charge terms rides other) ≤ dear + charged_by (charge terms rides one)
by-window terms rides dear cheap one other bill ahead =
    elim (charged_or_free terms rides other) [
      | inl free ↦ omega (arith, free.cost, bill)
      | inr also ↦ elim (charged_or_free terms rides one) [
        | inl free ↦ elim free.reached [
          | inl limit ↦ absurd (omega (arith, limit, also.below_rides))
          | inr reached ↦ omega
              (arith, reached, free.cost, also.cost, also.below_ceiling, bill, ahead)
        ]
        | inr paid ↦ omega
            (arith, paid.cost, paid.below_ceiling, also.cost, also.below_ceiling, bill, ahead)
      ]
    ]

by-caps : (ride : LiveTap) (dear cheap most least : ℕ) (caps : List CapRules)
    (ones others : List CapWindow) → cheap ≤ dear → cheap + least ≤ dear + most
    → AreAhead dear cheap caps ones others
    → cheap + lefts ride least caps others ≤ dear + lefts ride most caps ones
by-caps ride dear cheap most least [] ones others bill costs ahead = costs
by-caps ride dear cheap most least (cap ∷ caps) [] [] bill costs ahead = costs
by-caps ride dear cheap most least (cap ∷ caps) [] (other ∷ others) bill costs ahead = absurd ahead
by-caps ride dear cheap most least (cap ∷ caps) (one ∷ ones) [] bill costs ahead = absurd ahead
by-caps ride dear cheap most least (cap ∷ caps) (one ∷ ones) (other ∷ others) bill costs ahead =
    by-caps ride dear cheap (min most (cap.ceiling ride - one.cents))
    (min least (cap.ceiling ride - other.cents)) caps ones others bill
    (omega (arith, bill, costs, ahead.0.1)) ahead.1

-- what a tap costs, if all caps count it
cost-by : (terms : Terms) (rides cents : ℕ) (tap : LiveTap) (caps : List CapRules)
    (windows : List CapWindow) → All CountsAll caps
    → cap_cents (lowered (least_from 0 None tap caps windows) (charge terms rides cents))
    ≡ lefts tap (charged_by (charge terms rides cents)) caps windows
cost-by terms rides cents tap caps windows all =
    cost 0 None tap caps windows (charge terms rides cents) all
    ∙ ap (λ n. lefts tap n caps windows) (lowered-none (charge terms rides cents))

-- with one more cap it costs no more beyond what the other account is ahead
cheaper-by : (terms : Terms) (rides : ℕ) (tap : LiveTap) (more : CapRules) (caps : List CapRules)
    (dear cheap one two : ℕ) (cap : CapWindow) (ones others : List CapWindow)
    → All CountsAll (more ∷ caps) → cheap ≤ dear → cheap + one ≤ dear + two
    → AreAhead dear cheap caps ones others
    → cheap + cap_cents (lowered (least_from 0 None tap (more ∷ caps) (cap ∷ others))
    (charge terms rides two))
    ≤ dear + cap_cents (lowered (least_from 0 None tap caps ones) (charge terms rides one))
cheaper-by terms rides tap more caps dear cheap one two cap ones others all bill main ahead =
    omega (
      arith,
      cost-by terms rides two tap (more ∷ caps) (cap ∷ others) all,
      cost-by terms rides one tap caps ones (All-tail CountsAll more caps all),
      by-caps tap dear cheap (charged_by (charge terms rides one))
          (min (charged_by (charge terms rides two)) (more.ceiling tap - cap.cents))
          caps ones others bill
          (omega (arith, by-window terms rides dear cheap one two bill main)) ahead,
    )

-- the states with one more cap, and those without it
pub record IsMore (capped : CappedRules) (dear cheap : ℕ) (states : CapStates) (rides : ℕ)
    (window : CapWindow) (others : List CapWindow) (freed : Bool) : Type 0 where
  pub bill : cheap ≤ dear
  pub count : states.rides ≡ rides
  pub main : IsAhead dear cheap states.window window
  pub caps : AreAhead dear cheap capped.caps states.caps others
  pub free : states.freed ≡ freed

-- the rides of the last window go on in both
same-rides : (moment kept count : ℕ) (one other : CapWindow) → one.until ≡ other.until
    → kept ≡ count
    → cond (nat_lt moment one.until) kept 0 ≡ cond (nat_lt moment other.until) count 0
same-rides moment kept count one other until same =
    λ i. cond (nat_lt moment (until i)) (same i) 0

-- ---- whether the limit of rides frees a ride does not depend on what it cost
by-freed : (one : Charge) (position cents : ℕ) (least : Option CapLeft) → is_freed_by one ≡ false
    → is_freed (lowered_by one position cents least) ≡ false
by-freed one position cents None is = is
by-freed one position cents (Some least) is =
    elim (least.cents == 0) as (λ v. is_freed (cond v (CapReached position least.cap)
    (cond (nat_lt least.cents cents) (CapCut position least.cents least.cap) (ByWindow one)))
    ≡ false) [
      | true ↦ refl
      | false ↦ elim (nat_lt least.cents cents) as (λ v.
          is_freed (cond v (CapCut position least.cents least.cap) (ByWindow one)) ≡ false)
          [ true ↦ refl | false ↦ is ]
    ]

lowered-freed : (least : Option CapLeft) (one : Charge)
    → is_freed (lowered least one) ≡ is_freed_by one
lowered-freed least (Full position cents) = by-freed (Full position cents) position cents least refl
lowered-freed least (CeilingCut position cents) =
    by-freed (CeilingCut position cents) position cents least refl
lowered-freed least (CeilingReached position) = refl
lowered-freed least RideLimitReached = refl

charge-freed : (terms : Terms) (rides cents : ℕ)
    → is_freed_by (charge terms rides cents) ≡ nat_le terms.rides rides
unfolding charge
charge-freed terms rides cents = elim (nat_le terms.rides rides) as (λ v.
    is_freed_by (cond v RideLimitReached (cond (nat_le terms.ceiling cents) (CeilingReached rides)
    (cond (nat_le (cents + terms.fare) terms.ceiling) (Full rides terms.fare)
    (CeilingCut rides (terms.ceiling - cents))))) ≡ v) [
      | true ↦ refl
      | false ↦ elim (nat_le terms.ceiling cents) as (λ v.
          is_freed_by (cond v (CeilingReached rides)
          (cond (nat_le (cents + terms.fare) terms.ceiling) (Full rides terms.fare)
          (CeilingCut rides (terms.ceiling - cents)))) ≡ false) [
            | true ↦ refl
            | false ↦ elim (nat_le (cents + terms.fare) terms.ceiling) as (λ v.
                is_freed_by (cond v (Full rides terms.fare) (CeilingCut rides (terms.ceiling - cents)))
                ≡ false)
                [ true ↦ refl | false ↦ refl ]
          ]
    ]

same-freed : (terms : Terms) (rides count one two : ℕ) (least other : Option CapLeft)
    → rides ≡ count
    → is_freed (lowered least (charge terms rides one))
    ≡ is_freed (lowered other (charge terms count two))
same-freed terms rides count one two least other same =
    lowered-freed least (charge terms rides one) ∙ charge-freed terms rides one
    ∙ ap (λ n. nat_le terms.rides n) same
    ∙ sym (lowered-freed other (charge terms count two) ∙ charge-freed terms count two)

window-all : (capped : CappedRules) → CountsAll (window_cap capped.rules)
unfolding window_cap
window-all capped = λ ride. refl

-- the cents of both, from states in which one is ahead
abbrev IsCheaper : CappedRules → CapRules → ℕ → ℕ → CapStates → CapStates → List Due → Type 0
IsCheaper capped more dear cheap one two dues =
    cheap + cents_of (charged_after (with_cap capped more) two dues)
    ≤ dear + cents_of (charged_after capped one dues)

-- the same with a transfer for which this is charged
abbrev IsCheaperAt : CappedRules → CapRules → ℕ → ℕ → CapStates → CapStates → LiveTap → ℕ → List Due
    → Option CapCharge → Option CapCharge → Type 0
IsCheaperAt capped more dear cheap one two tap cents dues charge other =
    cheap + cents_of (with_charged (of_transfer tap cents) other (charged_after (with_cap capped more)
    (with_some_extra (with_cap capped more) tap other two) dues))
    ≤ dear + cents_of (with_charged (of_transfer tap cents) charge (charged_after capped
    (with_some_extra capped tap charge one) dues))

-- the states with one more cap, of these windows
abbrev more_states : ℕ → ℕ → CapWindow → CapWindow → List CapWindow → Bool → CapStates
more_states rides paid window cap others freed = record {
  rides = rides;
  paid = paid;
  window = window;
  caps = cap ∷ others;
  freed = freed;
}

cheaper-taps : (capped : CappedRules) (more : CapRules) (dear cheap : ℕ) (states : CapStates)
    (rides paid : ℕ) (window cap : CapWindow) (others : List CapWindow) (freed : Bool)
    (dues : List Due)
    → All CountsAll (more ∷ capped.caps)
    → IsMore capped dear cheap states rides window others freed
    → IsCheaper capped more dear cheap states (more_states rides paid window cap others freed) dues
unfolding charged_after due_charge after_due ride_charge after_ride with_charge at_ride each_window
    opened counted window_cap charge_at extra_charge with_extra
cheaper-taps capped more dear cheap states rides paid window cap others freed [] all is =
    omega (arith, is.bill)
cheaper-taps capped more dear cheap states rides paid window cap others freed
    (of_ride ride ∷ dues) all is =
    let caps-all = All-tail CountsAll more capped.caps all in
    let one = at_ride capped ride states in
    let two = at_ride (with_cap capped more) ride
    (more_states rides paid window cap others freed) in
    let main = opened-ahead dear cheap ride.moment (capped.rules.until ride.moment) states.window
    window is.bill is.main in
    let ahead = all-opened dear cheap ride capped.caps states.caps others is.bill is.caps in
    let count = same-rides ride.moment states.rides rides states.window window is.main.0 is.count in
    let most = cap_cents (charge_at capped ride one) in
    let least = cap_cents (charge_at (with_cap capped more) ride two) in
    let costs : cheap + least ≤ dear + most =
    rw count (cheaper-by (capped.rules.terms ride) two.rides ride more capped.caps dear cheap
    one.window.cents two.window.cents (opened ride more cap) one.caps
    (each_window (opened ride) capped.caps others) all is.bill main.1 ahead) in
    let after = with_charge (with_cap capped more) ride
    (charge_at (with_cap capped more) ride two) two in
    let rest = cheaper-taps capped more (dear + most) (cheap + least)
    (with_charge capped ride (charge_at capped ride one) one) after.rides after.paid after.window
    (counted ride least more (opened ride more cap))
    (each_window (counted ride least) capped.caps
    (each_window (opened ride) capped.caps others)) after.freed dues all (record {
      bill = costs;
      count = ap (λ n. n + 1) count;
      main = counted-ahead dear cheap most least ride (window_cap capped.rules) one.window
          two.window (window-all capped) main;
      caps = all-counted dear cheap most least ride capped.caps one.caps
          (each_window (opened ride) capped.caps others) caps-all ahead;
      free = same-freed (capped.rules.terms ride) one.rides two.rides one.window.cents
          two.window.cents (least_from 0 None ride capped.caps one.caps)
          (least_from 0 None ride (more ∷ capped.caps) two.caps) count;
    }) in
    omega (
      arith,
      rest,
      sum_by-cons (λ (c : Charged). c.cents) (record { due = of_ride ride; cents = most })
          (charged_after capped (with_charge capped ride (charge_at capped ride one) one) dues),
      sum_by-cons (λ (c : Charged). c.cents) (record { due = of_ride ride; cents = least })
          (charged_after (with_cap capped more)
          (with_charge (with_cap capped more) ride (charge_at (with_cap capped more) ride two) two)
          dues),
    )
cheaper-taps capped more dear cheap states rides paid window cap others freed
    (of_transfer tap cents ∷ dues) all is =
    let caps-all = All-tail CountsAll more capped.caps all in
    let two = more_states rides paid window cap others freed in
    let terms = extra_terms (capped.rules.terms tap) cents in
    let most-by = lowered (least_from 0 None tap capped.caps states.caps)
    (charge terms 0 states.window.cents) in
    let least-by = lowered (least_from 0 None tap (more ∷ capped.caps) (cap ∷ others))
    (charge terms 0 window.cents) in
    let most = cap_cents most-by in
    let least = cap_cents least-by in
    let costs : cheap + least ≤ dear + most =
    cheaper-by terms 0 tap more capped.caps dear cheap states.window.cents window.cents cap
    states.caps others all is.bill is.main.1 is.caps in
    let rest = cheaper-taps capped more (dear + most) (cheap + least)
    (with_extra capped tap most-by states) rides paid
    (counted tap least (window_cap capped.rules) window) (counted tap least more cap)
    (each_window (counted tap least) capped.caps others) freed dues all (record {
      bill = costs;
      count = is.count;
      main = counted-ahead dear cheap most least tap (window_cap capped.rules) states.window
          window (window-all capped) is.main;
      caps = all-counted dear cheap most least tap capped.caps states.caps others caps-all is.caps;
      free = is.free;
    }) in
    let Both : Bool → Bool → Type 0 = λ one other.
    IsCheaperAt capped more dear cheap states two tap cents dues (cond one None (Some most-by))
    (cond other None (Some least-by)) in
    subst (λ v. Both v freed) (sym is.free) (elim freed as (λ v. Both v v) [
      | true ↦ cheaper-taps capped more dear cheap states rides paid window cap others freed dues all
          is
      | false ↦ omega (
        arith,
        rest,
        sum_by-cons (λ (c : Charged). c.cents) (record { due = of_transfer tap cents; cents = most })
            (charged_after capped (with_extra capped tap most-by states) dues),
        sum_by-cons (λ (c : Charged). c.cents) (record { due = of_transfer tap cents; cents = least })
            (charged_after (with_cap capped more) (with_extra (with_cap capped more) tap least-by two)
            dues),
      )
    ])

none-ahead : (caps : List CapRules)
    → AreAhead 0 0 caps (map (λ cap. no_window) caps) (map (λ cap. no_window) caps)
none-ahead [] = tt
none-ahead (cap ∷ caps) = ((refl, omega arith), none-ahead caps)

cheaper-charged : (capped : CappedRules) (more : CapRules) (taps : List TapIn)
    → All CountsAll (more ∷ capped.caps)
    → cents_of (charged (with_cap capped more) taps) ≤ cents_of (charged capped taps)
unfolding charged no_rides
cheaper-charged capped more taps all =
    rw (same-dues capped (with_cap capped more) taps
    (record { fares = λ tap. refl; pays = refl }) refl)
    (omega (
      arith,
      cheaper-taps capped more 0 0 (no_rides capped) 0 0 no_window no_window
          (map (λ cap. no_window) capped.caps) false (dues capped taps) all (record {
            bill = omega arith;
            count = refl;
            main = (refl, omega arith);
            caps = none-ahead capped.caps;
            free = refl;
          }),
    ))

pub never-dearer : (capped : CappedRules) (more : CapRules) (taps : List TapIn)
    → All CountsAll (more ∷ capped.caps)
    → sum_by (λ reply. reply.cents) (capped_replies (with_cap capped more) taps)
    ≤ sum_by (λ reply. reply.cents) (capped_replies capped taps)
never-dearer capped more taps all =
    omega (
      arith,
      cheaper-charged capped more taps all,
      rides-bill (with_cap capped more) taps,
      rides-bill capped taps,
    )
