-- Validators: what private functions alone cite.
use Rattle.std.specs.{List.AllWithin, Prelude.◌≡◌, Prelude.ℕ, Prelude.◌+◌}
use Rattle.std.specs.Prelude.{◌&&◌, Bool, true, false, List, [], ◌∷◌, length, map, nat_le, nat_lt}
use Rattle.tariffs.specs.{Validators.are_disjoint, declared.validators.RangeRest.RangeRest}

-- each number is below the next one
abbrev pub is_increasing : List ℕ → Bool
is_increasing [] = true
is_increasing (first ∷ []) = true
is_increasing (first ∷ next ∷ more) = nat_lt first next && is_increasing (next ∷ more)

-- disjoint ranges in increasing order, and their first numbers
pub record AreSearchable (ranges : List (ℕ × RangeRest)) (firsts : List ℕ) : Type 0 where
  pub apart : are_disjoint ranges ≡ true
  pub same : firsts ≡ map (λ range. range.0) ranges

-- each number before the index is not above `number`, and each from `size` places after the index
-- on is
pub record IsSplitAt (number : ℕ) (firsts : List ℕ) (index size : ℕ) : Type 0 where
  pub front : AllWithin (λ first. nat_le first number ≡ true) firsts 0 index
  pub back : AllWithin (λ first. nat_le first number ≡ false) firsts (index + size) (length firsts)
