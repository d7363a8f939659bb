-- Facts of each place of a list.
use Rattle.std.specs.Prelude.{ℕ, zero, suc, ◌≡◌, List, [], ◌∷◌, ◌++◌, length, Some, slice_get}
use Rattle.std.proofs.Common.{subst}

-- what holds at each place of a list and of one element more
pub position_more : {A : Type 0} (P : ℕ → A → Type 0) (xs : List A) (y : A)
    → ((i : ℕ) (x : A) → slice_get xs i ≡ Some x → P i x) → P (length xs) y
    → (i : ℕ) (x : A) → slice_get (xs ++ y ∷ []) i ≡ Some x → P i x
position_more P [] y all here zero x e = subst (λ z. P 0 z) (let h : y ≡ x = cc in h) here
position_more P [] y all here (suc i) x e = absurd (cc)
position_more P (z ∷ xs) y all here zero x e = all 0 x e
position_more P (z ∷ xs) y all here (suc i) x e =
    position_more (λ j w. P (suc j) w) xs y (λ j w h. all (suc j) w h) here i x e
