-- Decimal digits.
use Rattle.std.proofs.Common.{◌≡◌, ℕ, zero, suc, ◌<◌, ◌≤◌, List, [], ◌∷◌, length, None, Some, refl}
use Rattle.std.proofs.{Common.arith, Common.true, Common.false, lemmas.Str.digit_value_digit}
use Rattle.std.specs.Char.{is_ascii_digit}
use Rattle.std.specs.Prelude.{◌^◌, ◌&&◌, ◌==◌, Bool, if◌then◌else◌, nat_lt, slice_index}
use Rattle.std.specs.Str.Parse.{AllDigits, digits_value}
use Rattle.tap_rows.specs.{Moments.IsDecimal, Numbers.decimal_in, Numbers.digits_len}

-- the first `end` bytes are digits, and no digit follows them
pub digits_len_is : (text : List ℕ) (end : ℕ) → end ≤ length text
    → ((k : ℕ) → k < end → is_ascii_digit (slice_index text k) ≡ true)
    → (end < length text → is_ascii_digit (slice_index text end) ≡ false) → end ≡ digits_len text
digits_len_is [] end within digits stops = omega (arith, within)
digits_len_is (c ∷ text) zero within digits stops =
    let other = stops (omega arith) in grind (arith, other)
digits_len_is (c ∷ text) (suc end) within digits stops =
    let first = digits 0 (omega arith) in
    let rest = digits_len_is text end (omega (arith, within))
    (λ k below. digits (suc k) (omega (arith, below)))
    (λ below. stops (omega (arith, below))) in
    grind (arith, first, rest)

-- a text of digits alone
all_digits : (text : List ℕ) → digits_len text ≡ length text → AllDigits 10 text
all_digits [] same = tt
all_digits (c ∷ text) same = by_first (is_ascii_digit c) refl (λ rest. all_digits text rest)
  where
    by_first : (b : Bool) → is_ascii_digit c ≡ b
        → (digits_len text ≡ length text → AllDigits 10 text) → AllDigits 10 (c ∷ text)
    by_first true digit more =
        let low : 48 ≤ c = grind (arith, digit) in
        let high : c ≤ 57 = grind (arith, digit) in
        let value = digit_value_digit c (low, high) in
        (omega (arith, value, high), more (grind (arith, digit, same)))
    by_first false other more = absurd (grind (arith, other, same))

if_none : (a b c : Bool) (number : ℕ) → (a ≡ true → b ≡ true → c ≡ true → ⊥)
    → None ≡ (if a && (b && c) then Some number else None)
if_none false b c number never = refl
if_none true false c number never = refl
if_none true true false number never = refl
if_none true true true number never = absurd (never refl refl refl)

pub no_decimal : (text : List ℕ) → ((number : ℕ) → number < 2 ^ 54 → ¬ (IsDecimal text number))
    → None ≡ decimal_in text
no_decimal text none =
    if_none (nat_lt 0 (length text)) (digits_len text == length text)
    (nat_lt (digits_value 10 text) (2 ^ 54)) (digits_value 10 text)
    (λ some all small. none (digits_value 10 text) (grind (arith, small))
    (record { digits = (grind (arith, some), all_digits text (grind (arith, all))); value = refl }))

-- a number that is too big
pub big_decimal : (text : List ℕ) (number : ℕ) → IsDecimal text number → 2 ^ 54 ≤ number
    → None ≡ decimal_in text
big_decimal text number is big =
    let same = is.value in
    if_none (nat_lt 0 (length text)) (digits_len text == length text)
    (nat_lt (digits_value 10 text) (2 ^ 54)) (digits_value 10 text)
    (λ some all small. absurd (grind (arith, small, same, big)))
