-- Keys: what private functions alone cite.
use Rattle.std.proofs.{Common.arith, lemmas.Bool.Decides.nat_tests}
use Rattle.std.specs.Prelude.{◌≡◌, ℕ, true, ◌==◌}

-- numbers that are equal by `==` are the same
pub same_number : (a b : ℕ) → (a == b) ≡ true → a ≡ b
same_number a b h = grind (arith, nat_tests)
