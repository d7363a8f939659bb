-- Names, as those of modes and zones.
use Rattle.std.specs.Prelude.{ℕ, Bool, List, nat_eq}
use Rattle.std.specs.Cmp.Lexicographic.{pointwise}

-- two names of the same bytes
abbrev pub same_name : List ℕ → List ℕ → Bool
same_name name other = pointwise nat_eq name other
