-- Texts that are written part by part.
use Rattle.std.specs.Prelude.{ℕ, ◌≡◌, List, ◌++◌}
use Rattle.std.proofs.Common.{◌∙◌, ap, append_assoc}

-- what was written in two parts is what stood there and both parts
pub in_parts : (start middle done first second : List ℕ) → middle ≡ start ++ first
    → done ≡ middle ++ second → done ≡ start ++ (first ++ second)
in_parts start middle done first second a b =
    b ∙ (ap (λ text. text ++ second) a ∙ append_assoc start first second)
