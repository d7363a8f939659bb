-- The pairs of modes between which a ride includes a transfer.
use Rattle.std.specs.Prelude.{ℕ, ◌==◌, ◌&&◌, ◌++◌, ◌∷◌, [], Bool, List, if◌then◌else◌}
use Rattle.std.specs.List.{list_any}

-- the pair goes from the one place to the other
abbrev pub joins : ℕ → ℕ → ℕ × ℕ → Bool
joins from to pair = (pair.0 == from) && (pair.1 == to)

-- one of the pairs goes from the one place to the other
abbrev pub has_pair : List (ℕ × ℕ) → ℕ → ℕ → Bool
has_pair pairs from to = list_any (joins from to) pairs

-- the pairs and one more, if it is not yet among them
abbrev pub with_pair : List (ℕ × ℕ) → ℕ → ℕ → List (ℕ × ℕ)
with_pair pairs from to = if has_pair pairs from to then pairs else pairs ++ (from, to) ∷ []
