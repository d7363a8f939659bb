-- The claims of all views, after each kind of step.
use Rattle.std.proofs.Common.{◌≡◌, ◌≢◌, ℕ, ◌+◌, ◌<◌, ◌≤◌, List, [], ◌∷◌, ◌++◌, set, sum_by}
use Rattle.std.proofs.Common.{sym, ap, ◌∙◌, subst, arith, inl, inr, ⊎_elim, lt_of_not-le}
use Rattle.std.proofs.lemmas.List.Sums.{sum_by-append, sum_by-cons}
use mathlib.Core.Option.{some}
use mathlib.Core.Logic.{dite}
use native.Mathlib.Decide.{ℕ_discrete, dec_le}
use lib.ListN.{get_elem?}
use Rattle.atomic_table.proofs.Lists.{at_set, at_snoc}
use Rattle.shared_books.specs.Claims.{all_claims, claims_given, claims_left, AreClaims}
use Rattle.shared_books.proofs.Changed.{sum_set, sum_part, two_parts}

-- both get some of two claims or more, and nothing is lost
pub halves : (n : ℕ) → 1 < n
    → (0 < claims_left n) × (0 < claims_given n) × (claims_left n + claims_given n ≡ n)
halves n lt = (omega arith, omega arith, omega arith)

not_more : (n : ℕ) → claims_left n + claims_given n ≤ n
not_more n = omega arith

one_is_lost : (n : ℕ) → n ≤ 1 → n ≢ 0 → claims_left n + claims_given n < n
one_is_lost n le ne = omega (arith, ne)

module _ {V : Type 0} (claims : V → ℕ) (Spent : V → Type 0) where
  -- one view changes, and keeps its claims
  pub claims_set : (views : List V) (j : ℕ) (v w : V) → get_elem? views j ≡ some v
      → claims w ≡ claims v → (Spent v → ⊥) → AreClaims claims Spent views
      → AreClaims claims Spent (set views j w)
  claims_set views j v w at same acts c =
      let t = sum_set claims views j v w at in
      ⊎_elim
      (λ less. inl (omega arith))
      (λ (all : (sum_by claims views ≡ all_claims)
      × ((i : ℕ) (u : V) → get_elem? views i ≡ some u → claims u ≡ 0 → Spent u)). let s = all.0 in
      inr (
        omega arith,
        λ i u e none. ⊎_elim
            (λ (p : (i ≡ j) × (w ≡ u)). absurd
            (acts (all.1 j v at (sym same ∙ (ap claims p.1 ∙ none)))))
            (λ (p : (i ≢ j) × (get_elem? views i ≡ some u)). all.1 i u p.1 none)
            (at_set views j i w u e),
      ))
      c

  -- a view is cut in two
  pub claims_split : (views : List V) (j : ℕ) (v left new : V) → get_elem? views j ≡ some v
      → claims left ≡ claims_left (claims v) → claims new ≡ claims_given (claims v) → (Spent v → ⊥)
      → AreClaims claims Spent views → AreClaims claims Spent (set views j left ++ new ∷ [])
  claims_split views j v left new at kept given acts c =
      let t = sum_set claims views j v left at in
      let a = sum_by-append claims (set views j left) (new ∷ []) in
      let one = sum_by-cons claims new [] in
      let most = not_more (claims v) in
      ⊎_elim
      (λ less. inl (omega arith))
      (λ (all : (sum_by claims views ≡ all_claims)
      × ((i : ℕ) (u : V) → get_elem? views i ≡ some u → claims u ≡ 0 → Spent u)). let s = all.0 in
      dite (dec_le (claims v) 1)
      (λ few. dite (ℕ_discrete (claims v) 0)
      (λ none. absurd (acts (all.1 j v at none)))
      (λ some_claim. let lost = one_is_lost (claims v) few some_claim in inl (omega arith)))
      (λ many. let h = halves (claims v) (lt_of_not-le many) in let left_some = h.0 in
      let new_some = h.1 in let both = h.2 in inr (
        omega arith,
        λ i u e none. ⊎_elim
            (λ (here : get_elem? (set views j left) i ≡ some u). ⊎_elim
            (λ (p : (i ≡ j) × (left ≡ u)). let z = ap claims p.1 in absurd (omega arith))
            (λ (p : (i ≢ j) × (get_elem? views i ≡ some u)). all.1 i u p.1 none)
            (at_set views j i left u here))
            (λ (p : new ≡ u). let z = ap claims p in absurd (omega arith))
            (at_snoc (set views j left) new u i e),
      )))
      c

  -- one view takes over another's claims
  pub claims_join : (views : List V) (j : ℕ) (v : V) (other : ℕ) (u both spent : V)
      → get_elem? views j ≡ some v → get_elem? (set views j both) other ≡ some u
      → claims both ≡ claims v + claims u → claims spent ≡ 0
      → Spent spent → (Spent v → ⊥) → AreClaims claims Spent views
      → AreClaims claims Spent (set (set views j both) other spent)
  claims_join views j v other u both spent at there sum nothing is_spent acts c =
      let first = sum_set claims views j v both at in
      let second = sum_set claims (set views j both) other u spent there in
      ⊎_elim
      (λ less. inl (omega arith))
      (λ (all : (sum_by claims views ≡ all_claims)
      × ((i : ℕ) (z : V) → get_elem? views i ≡ some z → claims z ≡ 0 → Spent z)). let s = all.0 in
      inr (
        omega arith,
        λ i z e none. ⊎_elim
            (λ (p : (i ≡ other) × (spent ≡ z)). subst Spent p.1 is_spent)
            (λ (p : (i ≢ other) × (get_elem? (set views j both) i ≡ some z)). ⊎_elim
            (λ (q : (i ≡ j) × (both ≡ z)). let same = ap claims q.1 in
            absurd (acts (all.1 j v at (omega arith))))
            (λ (q : (i ≢ j) × (get_elem? views i ≡ some z)). all.1 i z q.1 none)
            (at_set views j i both z p.1))
            (at_set (set views j both) other i spent z e),
      ))
      c

  -- nobody has more than all
  pub claims_most : (views : List V) (j : ℕ) (v : V) → get_elem? views j ≡ some v
      → AreClaims claims Spent views → claims v ≤ all_claims
  claims_most views j v at c =
      let part = sum_part claims views j v at in
      ⊎_elim (λ less. (omega arith))
      (λ (all : (sum_by claims views ≡ all_claims)
      × ((i : ℕ) (u : V) → get_elem? views i ≡ some u → claims u ≡ 0 → Spent u)). let s = all.0 in
      omega arith) c

  -- if one view has all claims, all others were joined into another
  pub others_spent : (views : List V) (j : ℕ) (v : V) → get_elem? views j ≡ some v
      → all_claims ≤ claims v → AreClaims claims Spent views → (i : ℕ) (u : V) → i ≢ j
      → get_elem? views i ≡ some u → Spent u
  others_spent views j v at whole c i u ne there =
      let two = two_parts claims views j i v u ne at there in
      ⊎_elim
      (λ less. absurd (omega arith))
      (λ (all : (sum_by claims views ≡ all_claims)
      × ((k : ℕ) (z : V) → get_elem? views k ≡ some z → claims z ≡ 0 → Spent z)). let s = all.0 in
      all.1 i u there (omega arith))
      c
