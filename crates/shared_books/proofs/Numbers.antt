-- Lists of numbers of which none stands twice.
use Rattle.std.proofs.Common.{◌≡◌, ℕ, ◌+◌, ◌<◌, ◌≤◌, ◌≢◌, ◌⊎◌, zero, suc, eqb, cond, List, [], ◌∷◌}
use Rattle.std.proofs.Common.{◌++◌, length, refl, sym, ap, ◌∙◌, subst, arith, inl, inr, ⊎_elim}
use Rattle.std.proofs.Common.{eq-eqb, ne_eqb}
use Rattle.std.proofs.lemmas.List.Sums.{sum_by-append}
use mathlib.Core.Logic.{dite}
use native.Mathlib.Decide.{ℕ_discrete}
use Rattle.shared_books.specs.Drawing.{times, NoneTwice, AllBelow, HasAll}

pub times-append : (x : ℕ) (xs ys : List ℕ) → times x (xs ++ ys) ≡ times x xs + times x ys
times-append x xs ys = sum_by-append (λ y. cond (eqb y x) 1 0) xs ys

times-one : (x y : ℕ) → times x (y ∷ []) ≡ cond (eqb y x) 1 0
times-one x y = omega arith

pub times-same : (x y : ℕ) → y ≡ x → times x (y ∷ []) ≡ 1
times-same x y e = times-one x y ∙ ap (λ b. cond b 1 0) (eq-eqb y x e)

pub times-other : (x y : ℕ) → y ≢ x → times x (y ∷ []) ≡ 0
times-other x y n = times-one x y ∙ ap (λ b. cond b 1 0) (ne_eqb y x n)

-- how many of the list are below k
abbrev pub below : ℕ → List ℕ → ℕ
below zero xs = 0
below (suc k) xs = below k xs + times k xs

below-append : (k : ℕ) (xs ys : List ℕ) → below k (xs ++ ys) ≡ below k xs + below k ys
below-append zero xs ys = refl
below-append (suc k) xs ys =
    let h = below-append k xs ys in let t = times-append k xs ys in omega arith

below-none : (k : ℕ) → below k [] ≡ 0
below-none zero = refl
below-none (suc k) = let h = below-none k in omega arith

below-one : (k y : ℕ) → ((y < k) × (below k (y ∷ []) ≡ 1)) ⊎ ((k ≤ y) × (below k (y ∷ []) ≡ 0))
below-one zero y = inr (omega arith, refl)
below-one (suc k) y =
    ⊎_elim
    (λ t. let h = times-other k y (λ e. omega arith) in let p = t.1 in
    inl (omega arith, omega arith))
    (λ t. let p = t.1 in dite (ℕ_discrete y k)
    (λ e. let h = times-same k y e in inl (omega arith, omega arith))
    (λ n. let h = times-other k y n in inr (omega arith, omega arith)))
    (below-one k y)

-- all of a list below k are its length
pub below_all : (k : ℕ) (xs : List ℕ) → AllBelow k xs → below k xs ≡ length xs
below_all k [] h = below-none k
below_all k (x ∷ xs) h =
    let rest = below_all k xs
    (λ y le. let e = h y le in let s = times-append y (x ∷ []) xs in omega arith) in
    let both : below k (x ∷ xs) ≡ below k (x ∷ []) + below k xs = below-append k (x ∷ []) xs in
    ⊎_elim
    (λ t. let p = t.1 in omega arith)
    (λ t. let s = times-same x x refl in let a : times x (x ∷ xs) ≡ times x (x ∷ []) + times x xs =
    times-append x (x ∷ []) xs in let e = h x t.0 in absurd (omega arith))
    (below-one k x)

below_few : (k : ℕ) (xs : List ℕ) → NoneTwice xs → below k xs ≤ k
below_few zero xs h = omega arith
below_few (suc k) xs h = let few = below_few k xs h in let one = h k in omega arith

-- numbers below k, none twice, are k at most
pub few : (k : ℕ) (xs : List ℕ) → AllBelow k xs → NoneTwice xs → length xs ≤ k
few k xs all none = let e = below_all k xs all in let f = below_few k xs none in omega arith

below_full : (k : ℕ) (xs : List ℕ) → NoneTwice xs → k ≤ below k xs → HasAll k xs
below_full zero xs h full x lt = absurd (omega arith)
below_full (suc k) xs h full x lt =
    let one = h k in
    let few = below_few k xs h in
    dite (ℕ_discrete x k)
    (λ e. subst (λ y. times y xs ≡ 1) (sym e) (omega arith))
    (λ n. below_full k xs h (omega arith) x (omega arith))

-- and if they are k, each is there
pub full : (k : ℕ) (xs : List ℕ) → AllBelow k xs → NoneTwice xs → k ≤ length xs → HasAll k xs
full k xs all none many = below_full k xs none (let e = below_all k xs all in omega arith)

below_has : (k : ℕ) (xs : List ℕ) → HasAll k xs → below k xs ≡ k
below_has zero xs all = refl
below_has (suc k) xs all = let rest = below_has k xs (λ x lt. all x (omega arith)) in let one =
    all k (omega arith) in omega arith

-- if each number below k is there, they are k at least
pub as_many : (k : ℕ) (xs : List ℕ) → AllBelow k xs → HasAll k xs → k ≤ length xs
as_many k xs below all = let e = below_all k xs below in let h = below_has k xs all in omega arith
