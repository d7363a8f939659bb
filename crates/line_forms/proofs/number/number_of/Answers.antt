use Rattle.std.proofs.Common.{◌≡◌, ◌≤◌, ◌<◌, ◌^◌, ℕ, length, List, [], ◌∷◌, true, MatchOption}
use Rattle.std.proofs.Common.{Option, Some, None, get_or, sym, ap, ◌∙◌, arith}
use Rattle.line_forms.specs.FormLaws.{decimal_digits, number_by, own, wide_64}
use Rattle.line_forms.specs.Numbers.{IsNumber}
use Rattle.std.proofs.lemmas.{Bool.and_parts, Fmt.decimal-digits_value, Fmt.decimal_is_IsNumeral}
use Rattle.std.proofs.lemmas.{Fmt.length-decimal-le_wide, Int.Digits.digits_value-lt}
use Rattle.std.specs.{Char.is_ascii_digit, Fmt.decimal}
use Rattle.std.specs.Str.{all_ascii_digits, Parse.digits_value}
use Rattle.line_forms.proofs.number.number_of.Goals as goal

abbrev IsNone : List ℕ → Type 0
IsNone digits = (n : ℕ) → n < 2 ^ 64 → ¬ (digits ≡ decimal n)

-- no number is written by nothing, or with a zero in front
bare : (digits : List ℕ) → (0 < length digits → (get_or digits 0 0 ≡ 48) × (1 < length digits))
    → IsNone digits
bare [] some = λ n small is.
    let (numeral, value) = decimal_is_IsNumeral n small in
    let long = ap length is in omega (arith, numeral.0, long)
bare (digit ∷ digits) some = λ n small is.
    let (numeral, value) = decimal_is_IsNumeral n small in
    let (zero, more) = some (omega arith) in
    let same : digits_value 10 digits ≡ n = ap (λ d. digits_value 10 (d ∷ digits)) (sym zero) ∙ ap (digits_value 10) is ∙ value in
    let (_, all) = and_parts (is_ascii_digit digit) (all_ascii_digits digits) (ap all_ascii_digits is ∙ decimal_digits n (omega (arith, small, wide_64))) in
    let low = digits_value-lt 10 digits (own.to digits all) in
    let short = length-decimal-le_wide (length digits) n (omega (arith, more)) (omega (arith, same, low)) (omega (arith, small, wide_64)) in
    let long = ap length is in
    omega (arith, short, long)

-- digits with no zero in front are the number's
plain : (digits : List ℕ) (r : Option ℕ) → MatchOption r
    (all_ascii_digits digits ≡ true → 2 ^ 64 ≤ digits_value 10 digits)
    (λ n. (all_ascii_digits digits ≡ true) × (n ≡ digits_value 10 digits) × (n < 2 ^ 64))
    → 0 < length digits → (get_or digits 0 0 ≡ 48 → length digits ≡ 1)
    → MatchOption r (IsNone digits) (λ n. IsNumber (2 ^ 64) n digits)
plain digits None great some lead = λ n small is.
    let (_, value) = decimal_is_IsNumeral n small in
    let same = ap (digits_value 10) is ∙ value in
    let high = great (ap all_ascii_digits is ∙ decimal_digits n (omega (arith, small, wide_64))) in
    omega (arith, high, same, small)
plain digits (Some n) (are, is, low) some lead =
    (low, sym (ap decimal is ∙ decimal-digits_value own digits are some lead (omega (arith, is, low))))

pub returns-then-is_empty : goal.returns-then-is_empty
returns-then-is_empty c =
    number_by (2 ^ 64) c.args.digits.now None wide_64 (bare c.args.digits.now (λ some. absurd (grind arith)))

pub returns-then-digits-gt1 : goal.returns-then-digits-gt1
returns-then-digits-gt1 c =
    number_by (2 ^ 64) c.args.digits.now None wide_64 (bare c.args.digits.now
    (λ some. (c.if-digits-eq48.true, c.if-digits-gt1.true)))

pub returns : goal.returns
returns c =
    let digits = c.args.digits.now in
    number_by (2 ^ 64) digits _ wide_64 (plain digits c.value_of.result c.value_of.ensures (grind arith) (λ zero. grind arith))
