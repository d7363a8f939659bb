-- The first line of a text, and what is behind it.
use Rattle.std.proofs.Common.{◌≡◌, ℕ, List, [], ◌∷◌, ◌++◌, Bool, true, false, refl, ap, arith, ◌==◌}
use Rattle.std.proofs.Common.{length}
use Rattle.std.specs.{Io.BufRead.drop_through, Io.BufRead.take_through, Prelude.if◌then◌else◌}

both_parts : (b : Bool) (x : ℕ) (xs ys zs : List ℕ) → ys ++ zs ≡ xs
    → (if b then x ∷ [] else x ∷ ys) ++ (if b then xs else zs) ≡ x ∷ xs
both_parts true x xs ys zs is = refl
both_parts false x xs ys zs is = ap (λ rest. x ∷ rest) is

-- a text is its first line and what is behind it
pub taken_and_left : (text : List ℕ) → take_through 10 text ++ drop_through 10 text ≡ text
taken_and_left [] = refl
taken_and_left (x ∷ xs) = both_parts (x == 10) x xs (take_through 10 xs) (drop_through 10 xs)
    (taken_and_left xs)

some_taken : (b : Bool) (x : ℕ) (front : List ℕ) → (if b then x ∷ [] else x ∷ front) ≡ [] → ⊥
some_taken true x front is = absurd (omega (arith, ap length is))
some_taken false x front is = absurd (omega (arith, ap length is))

-- no line is left of no bytes alone
pub taken_none : (left : List ℕ) → take_through 10 left ≡ [] → left ≡ []
taken_none [] is = refl
taken_none (x ∷ left) is = absurd (some_taken (x == 10) x (take_through 10 left) is)
