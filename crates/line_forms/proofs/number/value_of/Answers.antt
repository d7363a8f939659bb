use Rattle.std.proofs.Common.{◌≡◌, ◌≤◌, ◌<◌, ◌+◌, ◌*◌, ℕ, List, [], ◌∷◌, arith, drop, get_or}
use Rattle.std.proofs.{Common.length, lemmas.List.at_drop_more}
use Rattle.std.specs.{Char.digit_value, Str.Parse.digits_value, Str.Parse.digits_value_after}
use Rattle.line_forms.proofs.number.value_of.Goals as goal

-- a value does not fall as digits follow
grows : (n : ℕ) (digits : List ℕ) → n ≤ digits_value_after 10 n digits
grows n [] = omega arith
grows n (digit ∷ digits) =
    let more = grows (n * 10 + digit_value digit) digits in omega (arith, more)

over : (n : ℕ) (digits : List ℕ) (i : ℕ) → i < length digits
    → digits_value_after 10 n (drop i digits) ≡ digits_value 10 digits
    → n * 10 + digit_value (get_or digits i 0) ≤ digits_value 10 digits
over n digits i low is =
    let step = at_drop_more (digits_value_after 10 n) digits i 0 low in
    let more = grows (n * 10 + digit_value (get_or digits i 0)) (drop (i + 1) digits) in
    omega (arith, is, step, more)

pub returns-in_default : goal.returns-in_default
returns-in_default c = λ all.
    let h = over c.loop-byte.number c.args.digits.now c.loop-byte.byte-index c.loop-byte-test.true
    c.loop-byte.invariant.1 in grind (arith, h)

pub returns-in_default-checked_add : goal.returns-in_default-checked_add
returns-in_default-checked_add c = λ all.
    let h = over c.loop-byte.number c.args.digits.now c.loop-byte.byte-index c.loop-byte-test.true
    c.loop-byte.invariant.1 in grind (arith, h)
