-- Numbers by their order, and what one order and then another gives.
use Rattle.std.proofs.Common.{◌≡◌, ℕ, ◌<◌, true, false, refl, arith}
use Rattle.std.proofs.lemmas.Bool.{false≢true, Decides.nat_tests}
use Rattle.std.specs.Ordering.{is_lt, nat_cmp, ordering_then}
use Rattle.std.specs.declared.cmp.Ordering.{Ordering}
use Rattle.std.specs.declared.cmp.Ordering.TheVariants.{Less, Equal, Greater}

-- ---- two numbers
pub less : (a b : ℕ) → a < b → nat_cmp a b ≡ Less
less a b h = grind (arith, nat_tests)

-- the same number
pub equal : (a b : ℕ) → a ≡ b → nat_cmp a b ≡ Equal
equal a b h = grind (arith, nat_tests)

-- the second number is less
pub greater : (a b : ℕ) → b < a → nat_cmp a b ≡ Greater
greater a b h = grind (arith, nat_tests)

-- an order that tests as less
pub less_of : (r : Ordering) → is_lt r ≡ true → r ≡ Less
less_of Less is = refl
less_of Equal is = absurd (false≢true is)
less_of Greater is = absurd (false≢true is)

-- ---- one order, and another if they tie
pub first_equal : (r s : Ordering) → ordering_then r s ≡ Equal → r ≡ Equal
first_equal Less s e = e
first_equal Equal s e = refl
first_equal Greater s e = e

-- if both tie, the second ties
pub then_equal : (r s : Ordering) → ordering_then r s ≡ Equal → s ≡ Equal
then_equal Less s e = absurd (let h : Less ≡ Equal = e in cc)
then_equal Equal s e = e
then_equal Greater s e = absurd (let h : Greater ≡ Equal = e in cc)

-- if both, one after the other, are not less, the first is not
pub first_not_less : (r s : Ordering) → is_lt (ordering_then r s) ≡ false → is_lt r ≡ false
first_not_less Less s not = not
first_not_less Equal s not = refl
first_not_less Greater s not = refl
