-- Numbers, written as they are.
use Rattle.line_forms.specs.Forms.{BeginsWith, Reader, read_before, value_if}
use Rattle.std.specs.{Char.is_ascii_digit, Fmt.decimal, List.position_or_len}
use Rattle.std.specs.Prelude.{◌≡◌, ◌&&◌, ◌<◌, ℕ, Bool, List, Option, not, nat_lt}
use Rattle.std.specs.Str.{bytes_eq, Parse.digits_value}

abbrev pub ends_digits : ℕ → Bool
ends_digits byte = not (is_ascii_digit byte)

-- how many digits the text begins with
abbrev pub digits_in : List ℕ → ℕ
digits_in text = position_or_len ends_digits text

-- no digit comes first
abbrev pub BeginsWithNoDigit : List ℕ → Type 0
BeginsWithNoDigit text = BeginsWith ends_digits text

-- the number below the bound that these are the digits of, as it is written
unfoldable pub number_in : ℕ → List ℕ → Option ℕ
number_in bound digits =
    value_if (nat_lt (digits_value 10 digits) bound && bytes_eq (decimal (digits_value 10 digits)) digits) (digits_value 10 digits)

-- the number below the bound at the front of a text
abbrev pub number_at : ℕ → Reader ℕ
number_at bound = read_before ends_digits (number_in bound)

-- the text writes the number, which is below the bound
abbrev pub IsNumber : ℕ → ℕ → List ℕ → Type 0
IsNumber bound number text = (number < bound) × (text ≡ decimal number)
