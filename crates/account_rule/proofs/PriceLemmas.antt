-- That higher terms are never cheaper, and that equal fares are charged by their places.
use Rattle.std.proofs.Common.{◌≡◌, ℕ, zero, suc, ◌+◌, ◌-◌, ◌*◌, ◌<◌, ◌≤◌, true, false, List, []}
use Rattle.std.proofs.Common.{◌∷◌, min, leb, ltb, Some, refl, sym, ap, ◌∙◌, inl, inr, arith, subst}
use Rattle.account_rule.proofs.LimitLemmas.{charged}
use Rattle.account_rule.proofs.ShareLemmas.{cents_measure, sum-replies}
use Rattle.account_rule.specs.Laws.{AreNoHigher, IsOfPosition, position_cents, with_terms}
use Rattle.account_rule.specs.{Replies.replies, Taps.LiveTap, TokenRules.TokenRules, Trips.rides}
use Rattle.account_rule.specs.{Trips.trips, Windows.charge}
use Rattle.account_rule.specs.Windows.{charged_by, charges, charges_after, window_cents, windows}
use Rattle.account_rule.specs.declared.{reason.Charge.Charge, tap.TapIn.TapIn}
use Rattle.std.proofs.Math.Nat.{zero-add}
use Rattle.std.proofs.lemmas.Bool.{cases_lt, le-leb, lt-leb, lt-ltb}
use Rattle.std.proofs.lemmas.List.Sums.{sum_by-cons, sum_by-le-sum_by}
use Rattle.std.specs.Prelude.{slice_get, sum_by}
use Rattle.tariffs.specs.declared.terms.Terms.{Terms}

-- ---- higher terms
-- one ride: what was charged so far and it are no less under higher terms
ride-increase : (low high : Terms) (rides cents more : ℕ) → AreNoHigher low high → cents ≤ more
    → cents + charged_by (charge low rides cents) ≤ more + charged_by (charge high rides more)
ride-increase low high rides cents more increase below = elim (charged low rides cents) [
  | inl free ↦ omega (arith, free.cost, below)
  | inr paid ↦ elim (charged high rides more) [
    | inl free ↦ elim free.reached [
      | inl limit ↦ absurd (omega (arith, limit, paid.below_rides, increase.rides))
      | inr reached ↦ omega
          (arith, reached, paid.cost, paid.below_ceiling, increase.ceiling, free.cost)
    ]
    | inr also ↦ omega (
      arith,
      paid.cost,
      paid.below_ceiling,
      also.cost,
      also.below_ceiling,
      increase.fare,
      increase.ceiling,
      below,
    )
  ]
]

increase-from : (low high : LiveTap → Terms) (rides cents more : ℕ) (window : List LiveTap)
    → ((ride : LiveTap) → AreNoHigher (low ride) (high ride)) → cents ≤ more
    → cents + sum_by charged_by (charges_after low rides cents window)
    ≤ more + sum_by charged_by (charges_after high rides more window)
unfolding charges_after
increase-from low high rides cents more [] increase below = omega (arith, below)
increase-from low high rides cents more (first ∷ window) increase below =
    let next = cents + charged_by (charge (low first) rides cents) in
    let dear = more + charged_by (charge (high first) rides more) in
    omega (
      arith,
      increase-from low high (suc rides) next dear window increase
          (ride-increase (low first) (high first) rides cents more (increase first) below),
      sum_by-cons charged_by (charge (low first) rides cents)
          (charges_after low (suc rides) next window),
      sum_by-cons charged_by (charge (high first) rides more)
          (charges_after high (suc rides) dear window),
    )

window_cents-increase : (low high : LiveTap → Terms) (window : List LiveTap)
    → ((ride : LiveTap) → AreNoHigher (low ride) (high ride))
    → window_cents low window ≤ window_cents high window
unfolding window_cents charges
window_cents-increase low high window increase =
    omega (arith, increase-from low high 0 0 0 window increase (omega arith))

-- the windows do not depend on the terms
same_windows : (rules : TokenRules) (higher : LiveTap → Terms) (taps : List TapIn)
    → windows (with_terms rules higher) taps ≡ windows rules taps
unfolding windows rides trips
same_windows rules higher taps = refl

pub higher-cost : (rules : TokenRules) (higher : LiveTap → Terms) (taps : List TapIn)
    → ((ride : LiveTap) → AreNoHigher (rules.terms ride) (higher ride))
    → sum_by (λ reply. reply.cents) (replies rules taps)
    ≤ sum_by (λ reply. reply.cents) (replies (with_terms rules higher) taps)
higher-cost rules higher taps increase =
    let low = sum-replies rules _ _ (cents_measure rules.terms) taps in
    let high = sum-replies (with_terms rules higher) _ _ (cents_measure higher) taps
    ∙ ap (sum_by (window_cents higher)) (same_windows rules higher taps) in
    let increases = sum_by-le-sum_by (window_cents rules.terms) (window_cents higher)
    (windows rules taps) (λ window. window_cents-increase rules.terms higher window increase) in
    omega (arith, low, high, increases)

-- ---- equal fares
-- the rides before a place have cost a fare each, up to the ceiling
abbrev HasCost : Terms → ℕ → ℕ → Type 0
HasCost terms position cents =
    position < terms.rides → cents ≡ min terms.ceiling (position * terms.fare)

of_position : (terms : Terms) (position cents : ℕ) → 1 ≤ terms.fare → HasCost terms position cents
    → IsOfPosition terms position (charge terms position cents)
unfolding position_cents
of_position terms position cents low cost = elim (charged terms position cents) [
  | inl free ↦ elim free.reached [
    | inl limit ↦
        let past : leb terms.rides position ≡ true = le-leb terms.rides position limit in record {
          cents = rw past free.cost;
          paid = rw past free.paid;
        }
    | inr reached ↦ elim (cases_lt position terms.rides) [
      | inl below ↦
          let room : leb terms.rides position ≡ false = lt-leb terms.rides position below in
          let past : leb terms.ceiling (position * terms.fare) ≡ true =
          le-leb terms.ceiling (position * terms.fare) (omega (arith, reached, cost below)) in
          record {
            cents = rw (room, past) free.cost;
            paid = rw (room, past) free.paid;
          }
      | inr limit ↦
          let past : leb terms.rides position ≡ true = le-leb terms.rides position limit in record {
            cents = rw past free.cost;
            paid = rw past free.paid;
          }
    ]
  ]
  | inr paid ↦
      let room : leb terms.rides position ≡ false = lt-leb terms.rides position paid.below_rides in
      let same : cents ≡ position * terms.fare =
      omega (arith, cost paid.below_rides, paid.below_ceiling) in
      let left : leb terms.ceiling (position * terms.fare) ≡ false =
      lt-leb terms.ceiling (position * terms.fare) (omega (arith, same, paid.below_ceiling)) in
      let costs : charged_by (charge terms position cents)
      ≡ min terms.fare (terms.ceiling - position * terms.fare) = omega (arith, paid.cost, same) in
      let some : ltb 0 (min terms.fare (terms.ceiling - position * terms.fare)) ≡ true =
      lt-ltb 0 (min terms.fare (terms.ceiling - position * terms.fare))
      (omega (arith, low, same, paid.below_ceiling)) in record {
        cents = rw (room, left) costs;
        paid = paid.paid ∙ rw (room, left) (sym some);
      }
]

next_cost : (terms : Terms) (position cents : ℕ) → HasCost terms position cents
    → HasCost terms (suc position) (cents + charged_by (charge terms position cents))
next_cost terms position cents cost below =
    let so_far : cents ≡ min terms.ceiling (position * terms.fare) = cost (omega (arith, below)) in
    elim (charged terms position cents) [
      | inl free ↦ elim free.reached [
        | inl limit ↦ absurd (omega (arith, limit, below))
        | inr reached ↦ omega (arith, so_far, reached, free.cost)
      ]
      | inr paid ↦ omega (arith, so_far, paid.cost, paid.below_ceiling)
    ]

by_positions : (terms : LiveTap → Terms) (same : Terms) (rides cents : ℕ) (window : List LiveTap)
    → 1 ≤ same.fare → ((ride : LiveTap) → terms ride ≡ same) → HasCost same rides cents
    → (position : ℕ) (one : Charge)
    → slice_get (charges_after terms rides cents window) position ≡ Some one
    → IsOfPosition same (rides + position) one
unfolding charges_after
by_positions terms same rides cents [] low equal cost position one is = absurd (cc)
by_positions terms same rides cents (first ∷ window) low equal cost zero one is =
    let it : charge same rides cents ≡ one =
    ap (λ t. charge t rides cents) (sym (equal first))
    ∙ the_same (charge (terms first) rides cents) one is in
    let at : rides ≡ rides + 0 = omega arith in
    subst (λ n. IsOfPosition same n one) at
    (subst (λ c. IsOfPosition same rides c) it (of_position same rides cents low cost))
  where
    the_same : (a b : Charge) → Some a ≡ Some b → a ≡ b
    the_same a b both = cc
by_positions terms same rides cents (first ∷ window) low equal cost (suc position) one is =
    let next : HasCost same (suc rides) (cents + charged_by (charge (terms first) rides cents)) =
    rw (equal first) (next_cost same rides cents cost) in
    let at : suc rides + position ≡ rides + suc position = omega arith in
    subst (λ n. IsOfPosition same n one) at
    (by_positions terms same (suc rides) (cents + charged_by (charge (terms first) rides cents))
    window low equal next position one is)

pub equal_by_positions : (terms : LiveTap → Terms) (same : Terms) (window : List LiveTap)
    → 1 ≤ same.fare → ((ride : LiveTap) → terms ride ≡ same)
    → (position : ℕ) (one : Charge) → slice_get (charges terms window) position ≡ Some one
    → IsOfPosition same position one
unfolding charges
equal_by_positions terms same window low equal =
    λ position one is. subst (λ n. IsOfPosition same n one) (zero-add position)
    (by_positions terms same 0 0 window low equal (λ below. omega arith) position one is)
