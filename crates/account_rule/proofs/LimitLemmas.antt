-- What the rides of a window cost, one after the other, and that no window exceeds its limits.
use Rattle.std.proofs.Common.{◌≡◌, ℕ, suc, ◌+◌, ◌-◌, ◌<◌, ◌≤◌, true, false, ◌⊎◌, cond, List, []}
use Rattle.std.proofs.Common.{◌∷◌, ◌++◌, length, max, min, leb, Some, None, refl, sym, ap, ◌∙◌, inl}
use Rattle.std.proofs.Common.{inr, arith, All, sum_by, Option}
use Rattle.account_rule.specs.{Taps.LiveTap, Windows.charge, Windows.charged_by}
use Rattle.account_rule.specs.Windows.{charges, charges_after, is_paid, paid_rides, window_cents}
use Rattle.account_rule.specs.declared.reason.Charge.{Charge, TheVariants.RideLimitReached}
use Rattle.std.proofs.{Math.Nat.zero-add, lemmas.Bool.cases_Bool, lemmas.Bool.cases_lt}
use Rattle.std.proofs.lemmas.{Bool.le-leb, Bool.leb-false, Bool.leb-true, List.Elements.All-head}
use Rattle.std.proofs.lemmas.List.{Elements.All-tail, Sums.sum_by-cons, Sums.sum_by_push}
use Rattle.std.specs.{List.last_or, Prelude.count_by}
use Rattle.tariffs.specs.declared.terms.Terms.{Terms}

-- a limit is reached, so the ride is free
pub record IsFree (terms : Terms) (rides cents : ℕ) : Type 0 where
  pub reached : (terms.rides ≤ rides) ⊎ (terms.ceiling ≤ cents)
  pub paid : is_paid (charge terms rides cents) ≡ false
  pub cost : charged_by (charge terms rides cents) ≡ 0

-- the ride is below both limits, and costs what is left at most
pub record IsCharged (terms : Terms) (rides cents : ℕ) : Type 0 where
  pub below_rides : rides < terms.rides
  pub below_ceiling : cents < terms.ceiling
  pub paid : is_paid (charge terms rides cents) ≡ true
  pub cost : charged_by (charge terms rides cents) ≡ min terms.fare (terms.ceiling - cents)

-- a ride is free, or charged
pub charged : (terms : Terms) (rides cents : ℕ)
    → IsFree terms rides cents ⊎ IsCharged terms rides cents
unfolding charge is_paid
charged terms rides cents =
    elim (cases_Bool (leb terms.rides rides)) [
      | inl limit ↦ inl (record {
        reached = inl (leb-true terms.rides rides limit);
        paid = rw limit refl;
        cost = rw limit refl;
      })
      | inr below ↦ elim (cases_Bool (leb terms.ceiling cents)) [
        | inl ceiling ↦ inl (record {
          reached = inr (leb-true terms.ceiling cents ceiling);
          paid = rw (below, ceiling) refl;
          cost = rw (below, ceiling) refl;
        })
        | inr left ↦ elim (cases_Bool (leb (cents + terms.fare) terms.ceiling)) [
          | inl whole ↦ inr (record {
            below_rides = leb-false terms.rides rides below;
            below_ceiling = leb-false terms.ceiling cents left;
            paid = rw (below, left, whole) refl;
            cost = rw (below, left, whole)
                (omega (arith, leb-true (cents + terms.fare) terms.ceiling whole));
          })
          | inr cut ↦ inr (record {
            below_rides = leb-false terms.rides rides below;
            below_ceiling = leb-false terms.ceiling cents left;
            paid = rw (below, left, cut) refl;
            cost = rw (below, left, cut)
                (omega (arith, leb-false (cents + terms.fare) terms.ceiling cut));
          })
        ]
      ]
    ]

-- past the ride limit all rides are alike
pub limit_from : (terms : Terms) (rides cents : ℕ) → terms.rides ≤ rides
    → charge terms rides cents ≡ RideLimitReached
unfolding charge
limit_from terms rides cents past =
    let reached : leb terms.rides rides ≡ true = le-leb terms.rides rides past in rw reached refl

-- rides need to be counted up to a number that no ride limit is above
pub charge-min : (terms : Terms) (rides cents : ℕ) → terms.rides ≤ 60_000
    → charge terms (min rides 60_000) cents ≡ charge terms rides cents
charge-min terms rides cents high = elim (cases_lt rides 60_000) [
  | inl below ↦ let same : min rides 60_000 ≡ rides = omega arith in
      ap (λ n. charge terms n cents) same
  | inr past ↦ limit_from terms (min rides 60_000) cents (omega arith)
      ∙ sym (limit_from terms rides cents (omega arith))
]

-- ---- one more ride
same_charge : (terms : Terms) (rides rides' cents cents' : ℕ) → rides ≡ rides' → cents ≡ cents'
    → charge terms rides cents ≡ charge terms rides' cents'
same_charge terms rides rides' cents cents' one two = cc

charges_after-push : (terms : LiveTap → Terms) (rides cents : ℕ) (window : List LiveTap)
    (ride : LiveTap)
    → charges_after terms rides cents (window ++ ride ∷ [])
    ≡ charges_after terms rides cents window
    ++ charge (terms ride) (rides + length window)
    (cents + sum_by charged_by (charges_after terms rides cents window)) ∷ []
unfolding charges_after
charges_after-push terms rides cents [] ride =
    ap (λ (c : Charge). c ∷ [])
    (same_charge (terms ride) rides (rides + 0) cents (cents + 0) (omega arith) (omega arith))
charges_after-push terms rides cents (first ∷ window) ride =
    let next = cents + charged_by (charge (terms first) rides cents) in
    ap (λ (cs : List Charge). charge (terms first) rides cents ∷ cs)
    (charges_after-push terms (suc rides) next window ride
    ∙ ap (λ (c : Charge). charges_after terms (suc rides) next window ++ c ∷ [])
    (same_charge (terms ride) (suc rides + length window) (rides + suc (length window))
    (next + sum_by charged_by (charges_after terms (suc rides) next window))
    (cents + sum_by charged_by (charge (terms first) rides cents
    ∷ charges_after terms (suc rides) next window))
    (omega arith)
    (omega (
      arith,
      sum_by-cons charged_by (charge (terms first) rides cents)
          (charges_after terms (suc rides) next window),
    ))))

pub charges-push : (terms : LiveTap → Terms) (window : List LiveTap) (ride : LiveTap)
    → charges terms (window ++ ride ∷ [])
    ≡ charges terms window
    ++ charge (terms ride) (length window) (window_cents terms window) ∷ []
unfolding charges window_cents
charges-push terms window ride =
    charges_after-push terms 0 0 window ride
    ∙ ap (λ (c : Charge). charges_after terms 0 0 window ++ c ∷ [])
    (same_charge (terms ride) (0 + length window) (length window)
    (0 + sum_by charged_by (charges_after terms 0 0 window))
    (sum_by charged_by (charges_after terms 0 0 window)) (omega arith) (omega arith))

pub cents-push : (terms : LiveTap → Terms) (window : List LiveTap) (ride : LiveTap)
    → window_cents terms (window ++ ride ∷ [])
    ≡ window_cents terms window
    + charged_by (charge (terms ride) (length window) (window_cents terms window))
unfolding window_cents
cents-push terms window ride =
    ap (λ (cs : List Charge). sum_by charged_by cs) (charges-push terms window ride)
    ∙ sum_by_push charged_by (charges terms window) _

pub paid-push : (terms : LiveTap → Terms) (window : List LiveTap) (ride : LiveTap)
    → paid_rides terms (window ++ ride ∷ [])
    ≡ paid_rides terms window
    + cond (is_paid (charge (terms ride) (length window) (window_cents terms window))) 1 0
unfolding paid_rides
paid-push terms window ride =
    ap (λ (cs : List Charge). count_by is_paid cs) (charges-push terms window ride)
    ∙ sum_by_push (λ c. cond (is_paid c) 1 0) (charges terms window) _

last_or-push : {A : Type 0} (before : Option A) (xs : List A) (x : A)
    → last_or before (xs ++ x ∷ []) ≡ Some x
last_or-push before [] x = refl
last_or-push before (first ∷ xs) x = last_or-push (Some first) xs x

pub last_charge-push : (terms : LiveTap → Terms) (window : List LiveTap) (ride : LiveTap)
    → last_or None (charges terms (window ++ ride ∷ []))
    ≡ Some (charge (terms ride) (length window) (window_cents terms window))
last_charge-push terms window ride =
    rw (charges-push terms window ride) (last_or-push None (charges terms window) _)

-- ---- the limits

one-plus : (n : ℕ) → 1 + n ≡ suc n
one-plus n = omega arith

count-free : (first : Charge) (more : List Charge) → is_paid first ≡ false
    → count_by is_paid (first ∷ more) ≡ count_by is_paid more
count-free first more free =
    sum_by-cons (λ c. cond (is_paid c) 1 0) first more
    ∙ ap (λ b. cond b 1 0 + count_by is_paid more) free ∙ zero-add (count_by is_paid more)

count-paid : (first : Charge) (more : List Charge) → is_paid first ≡ true
    → count_by is_paid (first ∷ more) ≡ suc (count_by is_paid more)
count-paid first more paid =
    sum_by-cons (λ c. cond (is_paid c) 1 0) first more
    ∙ ap (λ b. cond b 1 0 + count_by is_paid more) paid ∙ one-plus (count_by is_paid more)

paid_from : (terms : LiveTap → Terms) (rides cents limit : ℕ) (window : List LiveTap)
    → All (λ ride. (terms ride).rides ≤ limit) window
    → count_by is_paid (charges_after terms rides cents window) ≤ limit - rides
unfolding charges_after
paid_from terms rides cents limit [] all = omega arith
paid_from terms rides cents limit (first ∷ window) all =
    let next = cents + charged_by (charge (terms first) rides cents) in
    let rest = paid_from terms (suc rides) next limit window
    (All-tail (λ ride. (terms ride).rides ≤ limit) first window all) in
    let high : (terms first).rides ≤ limit =
    All-head (λ ride. (terms ride).rides ≤ limit) first window all in
    elim (charged (terms first) rides cents) [
      | inl free ↦ omega (
        arith,
        rest,
        count-free (charge (terms first) rides cents)
            (charges_after terms (suc rides) next window) free.paid,
      )
      | inr paid ↦ omega (
        arith,
        rest,
        paid.below_rides,
        high,
        count-paid (charge (terms first) rides cents)
            (charges_after terms (suc rides) next window) paid.paid,
      )
    ]

pub paid_rides-le : (terms : LiveTap → Terms) (limit : ℕ) (window : List LiveTap)
    → All (λ ride. (terms ride).rides ≤ limit) window → paid_rides terms window ≤ limit
unfolding paid_rides charges
paid_rides-le terms limit window all =
    omega (arith, paid_from terms 0 0 limit window all)

cents_from : (terms : LiveTap → Terms) (rides cents ceiling : ℕ) (window : List LiveTap)
    → cents ≤ ceiling → All (λ ride. (terms ride).ceiling ≤ ceiling) window
    → cents + sum_by charged_by (charges_after terms rides cents window) ≤ ceiling
unfolding charges_after
cents_from terms rides cents ceiling [] low all = omega (arith, low)
cents_from terms rides cents ceiling (first ∷ window) low all =
    let next = cents + charged_by (charge (terms first) rides cents) in
    let high : (terms first).ceiling ≤ ceiling =
    All-head (λ ride. (terms ride).ceiling ≤ ceiling) first window all in
    let below : next ≤ ceiling = elim (charged (terms first) rides cents) [
      | inl free ↦ omega (arith, free.cost, low)
      | inr paid ↦ omega (arith, paid.cost, paid.below_ceiling, high)
    ] in
    omega (
      arith,
      cents_from terms (suc rides) next ceiling window below
          (All-tail (λ ride. (terms ride).ceiling ≤ ceiling) first window all),
      sum_by-cons charged_by (charge (terms first) rides cents)
          (charges_after terms (suc rides) next window),
    )

pub window_cents-le : (terms : LiveTap → Terms) (ceiling : ℕ) (window : List LiveTap)
    → All (λ ride. (terms ride).ceiling ≤ ceiling) window → window_cents terms window ≤ ceiling
unfolding window_cents charges
window_cents-le terms ceiling window all =
    omega (arith, cents_from terms 0 0 ceiling window (omega arith) all)

-- ---- one more ride, whatever the terms of those before it

paid_count : (terms : LiveTap → Terms) (rides cents : ℕ) (window : List LiveTap)
    → count_by is_paid (charges_after terms rides cents window) ≤ length window
unfolding charges_after
paid_count terms rides cents [] = omega arith
paid_count terms rides cents (first ∷ window) =
    let next = cents + charged_by (charge (terms first) rides cents) in
    let rest = paid_count terms (suc rides) next window in
    elim (charged (terms first) rides cents) [
      | inl free ↦ omega (
        arith,
        rest,
        count-free (charge (terms first) rides cents)
            (charges_after terms (suc rides) next window) free.paid,
      )
      | inr paid ↦ omega (
        arith,
        rest,
        count-paid (charge (terms first) rides cents)
            (charges_after terms (suc rides) next window) paid.paid,
      )
    ]

few_paid : (terms : LiveTap → Terms) (before : List LiveTap)
    → paid_rides terms before ≤ length before
unfolding paid_rides charges
few_paid terms before = paid_count terms 0 0 before

pub paid-grow : (terms : LiveTap → Terms) (before : List LiveTap) (ride : LiveTap)
    → paid_rides terms (before ++ ride ∷ [])
    ≤ max (paid_rides terms before) (terms ride).rides
paid-grow terms before ride =
    let few : paid_rides terms before ≤ length before = few_paid terms before in
    elim (charged (terms ride) (length before) (window_cents terms before)) [
      | inl free ↦ rw (paid-push terms before ride, free.paid) (omega arith)
      | inr paid ↦ rw (paid-push terms before ride, paid.paid)
          (omega (arith, few, paid.below_rides))
    ]

pub cents-grow : (terms : LiveTap → Terms) (before : List LiveTap) (ride : LiveTap)
    → window_cents terms (before ++ ride ∷ [])
    ≤ max (window_cents terms before) (terms ride).ceiling
cents-grow terms before ride =
    elim (charged (terms ride) (length before) (window_cents terms before)) [
      | inl free ↦ rw (cents-push terms before ride, free.cost) (omega arith)
      | inr paid ↦ rw (cents-push terms before ride, paid.cost)
          (omega (arith, paid.below_ceiling))
    ]
