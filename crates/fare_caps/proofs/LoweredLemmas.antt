-- A lowered charge is within the charge by `window` and within what each cap leaves.
use Rattle.std.proofs.Common.{◌≡◌, ℕ, ◌+◌, ◌<◌, ◌≤◌, ◌==◌, true, false, cond, Option, Some, None}
use Rattle.std.proofs.Common.{refl, inl, inr, arith, is_some, nat_lt}
use Rattle.account_rule.proofs.LimitLemmas.{charged}
use Rattle.account_rule.specs.Windows.{charge, charged_by, is_paid}
use Rattle.account_rule.specs.declared.reason.Charge.{Charge}
use Rattle.account_rule.specs.declared.reason.Charge.TheVariants.{CeilingCut, CeilingReached, Full}
use Rattle.account_rule.specs.declared.reason.Charge.TheVariants.{RideLimitReached}
use Rattle.fare_caps.specs.Charges.{cap_cents, cap_paid, lesser, lowered, lowered_by}
use Rattle.fare_caps.specs.declared.cap_charge.CapCharge.TheVariants.{ByWindow, CapCut, CapReached}
use Rattle.fare_caps.specs.declared.cap_charge.CapLeft.{CapLeft}
use Rattle.std.proofs.lemmas.Bool.{cases_Bool, ltb-false, ltb-true}
use Rattle.tariffs.specs.{Terms.AreBoundedTerms, declared.terms.Terms.Terms}

-- ---- within the charge by `window`
by-le : (one : Charge) (position cents : ℕ) (least : Option CapLeft) → charged_by one ≡ cents
    → cap_cents (lowered_by one position cents least) ≤ cents
by-le one position cents None is = omega (arith, is)
by-le one position cents (Some least) is =
    elim (least.cents == 0) as (λ v. cap_cents (cond v (CapReached position least.cap)
    (cond (nat_lt least.cents cents) (CapCut position least.cents least.cap) (ByWindow one)))
    ≤ cents) [
      | true ↦ omega arith
      | false ↦ elim (cases_Bool (nat_lt least.cents cents)) [
        | inl less ↦ rw less (omega (arith, ltb-true least.cents cents less))
        | inr more ↦ rw more (omega (arith, is))
      ]
    ]

pub lowered-le : (least : Option CapLeft) (one : Charge)
    → cap_cents (lowered least one) ≤ charged_by one
lowered-le least (Full position cents) = by-le (Full position cents) position cents least refl
lowered-le least (CeilingCut position cents) =
    by-le (CeilingCut position cents) position cents least refl
lowered-le least (CeilingReached position) = omega arith
lowered-le least RideLimitReached = omega arith

-- what is paid under caps is paid by `window`
pub lowered-paid : (least : Option CapLeft) (one : Charge)
    → is_some (cap_paid (lowered least one)) ≡ true → is_paid one ≡ true
unfolding is_paid
lowered-paid least (Full position cents) paid = refl
lowered-paid least (CeilingCut position cents) paid = refl
lowered-paid least (CeilingReached position) paid = paid
lowered-paid least RideLimitReached paid = paid

-- ---- within what a cap leaves
abbrev pub IsAtMost : Option CapLeft → ℕ → Type 0
IsAtMost None cents = ⊥
IsAtMost (Some least) cents = least.cents ≤ cents

pub lesser-none : (least : Option CapLeft) (index : ℕ) → lesser least index None ≡ least
lesser-none None index = refl
lesser-none (Some least) index = refl

pub lesser-here : (least : Option CapLeft) (index cents : ℕ)
    → IsAtMost (lesser least index (Some cents)) cents
lesser-here None index cents = omega arith
lesser-here (Some least) index cents =
    elim (nat_lt cents least.cents) as (λ v. nat_lt cents least.cents ≡ v
    → IsAtMost (cond v (Some (record { cents = cents; cap = index })) (Some least)) cents) [
      | true ↦ λ _. omega arith
      | false ↦ λ not. omega (arith, ltb-false cents least.cents not)
    ] refl

pub lesser-keeps : (least : Option CapLeft) (index : ℕ) (left : Option ℕ) (cents : ℕ)
    → IsAtMost least cents → IsAtMost (lesser least index left) cents
lesser-keeps None index left cents most = absurd most
lesser-keeps (Some least) index None cents most = most
lesser-keeps (Some least) index (Some other) cents most =
    elim (nat_lt other least.cents) as (λ v. nat_lt other least.cents ≡ v
    → IsAtMost (cond v (Some (record { cents = other; cap = index })) (Some least)) cents) [
      | true ↦ λ less. omega (arith, most, ltb-true other least.cents less)
      | false ↦ λ _. most
    ] refl

by-most : (one : Charge) (position cents : ℕ) (least : CapLeft) → charged_by one ≡ cents
    → cap_cents (lowered_by one position cents (Some least)) ≤ least.cents
by-most one position cents least is =
    elim (least.cents == 0) as (λ v. cap_cents (cond v (CapReached position least.cap)
    (cond (nat_lt least.cents cents) (CapCut position least.cents least.cap) (ByWindow one)))
    ≤ least.cents) [
      | true ↦ omega arith
      | false ↦ elim (cases_Bool (nat_lt least.cents cents)) [
        | inl less ↦ rw less (omega arith)
        | inr more ↦ rw more (omega (arith, is, ltb-false least.cents cents more))
      ]
    ]

least-le : (least : CapLeft) (one : Charge) → cap_cents (lowered (Some least) one) ≤ least.cents
least-le least (Full position cents) = by-most (Full position cents) position cents least refl
least-le least (CeilingCut position cents) =
    by-most (CeilingCut position cents) position cents least refl
least-le least (CeilingReached position) = omega arith
least-le least RideLimitReached = omega arith

pub most-le : (least : Option CapLeft) (cents : ℕ) (one : Charge) → IsAtMost least cents
    → cap_cents (lowered least one) ≤ cents
most-le None cents one most = absurd most
most-le (Some least) cents one most = omega (arith, most, least-le least one)

-- ---- within the terms
pub lowered-few : (least : Option CapLeft) (terms : Terms) (rides cents : ℕ) → AreBoundedTerms terms
    → cap_cents (lowered least (charge terms rides cents)) ≤ 100_000
lowered-few least terms rides cents bounds = elim (charged terms rides cents) [
  | inl free ↦ omega (arith, free.cost, lowered-le least (charge terms rides cents))
  | inr paid ↦ omega
      (arith, paid.cost, bounds.fare, lowered-le least (charge terms rides cents))
]

pub charge-within : (terms : Terms) (rides cents : ℕ) → AreBoundedTerms terms
    → cents ≤ 100_000_000 → cents + charged_by (charge terms rides cents) ≤ 100_000_000
charge-within terms rides cents bounds low = elim (charged terms rides cents) [
  | inl free ↦ omega (arith, free.cost, low)
  | inr paid ↦ omega (arith, paid.cost, paid.below_ceiling, bounds.ceiling_high)
]

pub paid-below : (terms : Terms) (rides cents : ℕ) → is_paid (charge terms rides cents) ≡ true
    → rides < terms.rides
paid-below terms rides cents is = elim (charged terms rides cents) [
  | inl free ↦ absurd (cc (free.paid, is))
  | inr paid ↦ paid.below_rides
]
