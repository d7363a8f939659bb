-- The texts of moments, as `2024-03-08T17:00:00.000Z`.
use Rattle.std.specs.Prelude.{◌==◌, ◌+◌, ◌*◌, ◌%◌, ◌&&◌, ◌||◌, ℕ, Bool, true, false, List, [], ◌∷◌, codes, cond, not}
use Rattle.std.specs.Prelude.{length, nat_le, nat_lt, slice_index}
use Rattle.std.specs.Char.{is_ascii_digit}

-- a digit where the form has a `0`, and else the form's own byte
abbrev pub is_of_form : ℕ → ℕ → Bool
is_of_form form byte = cond (form == 48) (is_ascii_digit byte) (byte == form)

-- each byte of the text is of that of the form, and there are as many
abbrev pub has_form : List ℕ → List ℕ → Bool
has_form [] [] = true
has_form [] (byte ∷ text) = false
has_form (form ∷ forms) [] = false
has_form (form ∷ forms) (byte ∷ text) = is_of_form form byte && has_form forms text

abbrev pub moment_form : List ℕ
moment_form = codes "0000-00-00T00:00:00.000Z"

-- the number of two decimal digits from this byte on; the byte of `0` is a multiple of 16
abbrev pub number_of_two : List ℕ → ℕ → ℕ
number_of_two text at = slice_index text at % 16 * 10 + slice_index text (at + 1) % 16

abbrev pub is_leap_year : ℕ → Bool
is_leap_year year = (year % 4 == 0) && (not (year % 100 == 0) || (year % 400 == 0))

-- how many days the month has; 0 if the calendar lacks it
abbrev pub days_in_month : ℕ → ℕ → ℕ
days_in_month year month =
    cond (month == 2) (cond (is_leap_year year) 29 28)
    (cond (((month == 4) || (month == 6)) || ((month == 9) || (month == 11))) 30
    (cond (nat_le 1 month && nat_le month 12) 31 0))

-- the calendar has the date, and it is not before 1970
abbrev pub is_date : ℕ → ℕ → ℕ → Bool
is_date year month day =
    nat_le 1970 year && (nat_le 1 day && nat_le day (days_in_month year month))

-- `17:00:00` from byte 11 on is a time of day
abbrev pub has_time : List ℕ → Bool
has_time text =
    nat_lt (number_of_two text 11) 24 && (nat_lt (number_of_two text 14) 60 && nat_lt (number_of_two text 17) 60)

-- the year that the text begins with
abbrev pub year_of : List ℕ → ℕ
year_of text = number_of_two text 0 * 100 + number_of_two text 2

-- the text is that of a moment from 1970 on and before this year
abbrev pub is_moment : ℕ → List ℕ → Bool
is_moment limit text =
    (length text == 24) && (has_form moment_form text && ((nat_lt (year_of text) limit
    && is_date (year_of text) (number_of_two text 5) (number_of_two text 8)) && has_time text))
