-- Elements of a list, of what a test keeps of it, and of what a function makes of it.
use Rattle.std.proofs.Common.{◌≡◌, ℕ, zero, suc, ◌<◌, List, ◌∷◌, length, get_or, map, filter, []}
use Rattle.std.proofs.Common.{Bool, true, false, cond, refl, sym, ap, subst, ◌∙◌, arith, inl, inr}
use Rattle.std.proofs.lemmas.List.Elements.{All-contains, All-contains_itself, All-filter}
use Rattle.std.proofs.lemmas.List.Folds.{list_all_at}
use Rattle.std.specs.{List.list_all, Prelude.◌⊎◌, Prelude.Contains}

-- the first element is in the list
pub first_there : {X : Type 0} (x : X) (xs : List X) → Contains (x ∷ xs) x
first_there x xs = (zero, omega arith, refl)

-- what is among the other elements is in the list
pub later_there : {X : Type 0} (x z : X) (xs : List X) → Contains xs z → Contains (x ∷ xs) z
later_there x z xs there = (suc there.0, omega (arith, there.1), there.2)

-- what is in a list is the first element or among the others
pub there_cases : {X : Type 0} (x z : X) (xs : List X) → Contains (x ∷ xs) z
    → (x ≡ z) ⊎ Contains xs z
there_cases x z xs there = at there.0 there.1 there.2
  where
    at : (k : ℕ) → k < length (x ∷ xs) → get_or (x ∷ xs) k z ≡ z → (x ≡ z) ⊎ Contains xs z
    at zero within e = inl e
    at (suc k) within e = inr (k, omega (arith, within), e)

-- what passes the test is kept
pub kept_there : {X : Type 0} (p : X → Bool) (xs : List X) (z : X) → p z ≡ true → Contains xs z
    → Contains (filter p xs) z
kept_there p [] z passes there = absurd (omega (arith, there.1))
kept_there {X} p (x ∷ xs) z passes there =
    by_cases (there_cases x z xs there) (kept_there p xs z passes)
  where
    trailing : (b : Bool) → Contains (filter p xs) z
        → Contains (cond b (x ∷ filter p xs) (filter p xs)) z
    trailing true rest = later_there x z (filter p xs) rest
    trailing false rest = rest

    by_cases : (x ≡ z) ⊎ Contains xs z → (Contains xs z → Contains (filter p xs) z)
        → Contains (filter p (x ∷ xs)) z
    by_cases (inr later) more = trailing (p x) (more later)
    by_cases (inl e) more =
        let C : Bool → Type 0 = λ b. Contains (cond b (x ∷ filter p xs) (filter p xs)) z in
        let D : X → Type 0 = λ y. Contains (y ∷ filter p xs) z in
        subst C (sym (ap p e ∙ passes)) (subst D (sym e) (first_there z (filter p xs)))

-- what is kept was there
pub was_there : {X : Type 0} (p : X → Bool) (xs : List X) (z : X) → Contains (filter p xs) z
    → Contains xs z
was_there p xs z there =
    All-contains (Contains xs) (filter p xs) z
    (All-filter p (Contains xs) xs (All-contains_itself xs)) there

pub mapped_there : {X Y : Type 0} (f : X → Y) (xs : List X) (z : X) → Contains xs z
    → Contains (map f xs) (f z)
mapped_there f [] z there = absurd (omega (arith, there.1))
mapped_there f (x ∷ xs) z (zero, within, e) = (zero, omega arith, ap f e)
mapped_there f (x ∷ xs) z (suc k, within, e) =
    later_there (f x) (f z) (map f xs) (mapped_there f xs z (k, omega (arith, within), e))

-- a test that one of them does not pass
pub not_all : {X : Type 0} (p : X → Bool) (xs : List X) (z : X) → Contains xs z → p z ≡ false
    → list_all p xs ≡ false
not_all p xs z (k, within, e) fails = list_all_at p xs k z within (ap p e ∙ fails)
