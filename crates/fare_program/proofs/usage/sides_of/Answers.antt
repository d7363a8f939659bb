use Rattle.std.proofs.Common.{◌≡◌, ◌∷◌, ◌∙◌, [], ℕ, List, None, refl, sym, ap₂, inl, inr, lit<}
use Rattle.fare_program.specs.TokenRanges.{around_dots}
use Rattle.std.proofs.lemmas.{Bool.Decides.eqb_tells, Str.Pattern.strip_prefix_char}
use Rattle.fare_program.proofs.usage.sides_of.Goals as goal

-- what does not begin with a dot has no second one
no_dot : (from rest : List ℕ) → ((more : List ℕ) → rest ≡ 46 ∷ more → ⊥)
    → around_dots from rest ≡ None
no_dot from [] other = refl
no_dot from (byte ∷ below) other = elim (eqb_tells byte 46) [
  | inl is ↦ absurd (other below (ap₂ (λ (b : ℕ) (bs : List ℕ). b ∷ bs) is.1 refl))
  | inr apart ↦ rw apart.0 refl
]

pub returns-in_err-below : goal.returns-in_err-below
returns-in_err-below c =
    let parts = c.in_ok-from.ensures.byte (lit< tt) (λ w o f. f) in
    let none = no_dot c.in_ok-from.from.now c.in_ok-from.rest.now
    (strip_prefix_char 46 c.in_ok-from.rest.now None c.in_err-below.ensures.cases (lit< tt)) in
    rw c.from_residual-in_err-below.ensures (sym none ∙ ap₂ around_dots parts.0 parts.1)
