-- Numbers, as the fields of an agency's rows write them.
use Rattle.std.specs.{Char.is_ascii_digit, List.list_all, List.prefix_len}
use Rattle.std.specs.Prelude.{◌==◌, ◌&&◌, ◌+◌, ◌-◌, ◌*◌, ◌^◌, ℕ, Bool, List, Option, None, Some}
use Rattle.std.specs.Prelude.{drop, if◌then◌else◌, length, nat_lt, slice_index, take}
use Rattle.std.specs.Str.Parse.{digits_value}

-- how many digits the text begins with
abbrev pub digits_len : List ℕ → ℕ
digits_len text = prefix_len is_ascii_digit text

-- the number that the text writes with one digit or more, and nothing else; none from 2^54 on
abbrev pub decimal_in : List ℕ → Option ℕ
decimal_in text =
    if nat_lt 0 (length text)
    && (digits_len text == length text && nat_lt (digits_value 10 text) (2 ^ 54))
    then Some (digits_value 10 text) else None

-- how long the fraction is that the text begins with: a point, and the digits after it
abbrev pub fraction_len : List ℕ → ℕ
fraction_len text = if slice_index text 0 == 46 then 1 + digits_len (drop 1 text) else 0

-- the digit at this position; 0 after the end
abbrev pub digit_at : List ℕ → ℕ → ℕ
digit_at text position =
    if nat_lt position (length text) then slice_index text position - 48 else 0

-- how many thousandths a fraction is; what is less than one is dropped
abbrev pub thousandths_in : List ℕ → ℕ
thousandths_in fraction = digit_at fraction 1 * 100 + digit_at fraction 2 * 10 + digit_at fraction 3

abbrev pub is_zero : ℕ → Bool
is_zero byte = byte == 48

-- the text is a fraction of zeros
abbrev pub is_zero_fraction : List ℕ → Bool
is_zero_fraction text =
    nat_lt 1 (length text) && (slice_index text 0 == 46 && list_all is_zero (drop 1 text))

-- the text without a fraction of zeros at its end, as spreadsheets write `201.0` for 201
abbrev pub without_zeros : List ℕ → List ℕ
without_zeros text =
    if is_zero_fraction (drop (digits_len text) text) then take (digits_len text) text else text

-- the whole number that the text writes, also as `201.0`
abbrev pub whole_number_in : List ℕ → Option ℕ
whole_number_in text = decimal_in (without_zeros text)
