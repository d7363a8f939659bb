-- Texts in JSON and in CSV.
use Rattle.std.specs.{List.list_any, Prelude.ℕ, Prelude.◌+◌, Prelude.◌%◌, Prelude.◌/◌, Prelude.Bool}
use Rattle.std.specs.Prelude.{List, [], ◌∷◌, ◌++◌, flat_map, if◌then◌else◌, ◌||◌, ◌==◌, nat_lt}

-- the hexadecimal digit of a number below 16
abbrev pub hex_digit : ℕ → ℕ
hex_digit n = if nat_lt n 10 then 48 + n else 87 + n

-- a byte within a string of JSON: quotes, backslashes and control characters are escaped
abbrev pub json_byte : ℕ → List ℕ
json_byte b = if (b == 34) || (b == 92) then 92 ∷ b ∷ []
    else if nat_lt b 32 then 92 ∷ 117 ∷ 48 ∷ 48 ∷ (48 + b / 16) ∷ hex_digit (b % 16) ∷ [] else b ∷ []

-- the string of JSON
abbrev pub json_string : List ℕ → List ℕ
json_string text = 34 ∷ flat_map json_byte text ++ 34 ∷ []

-- a byte for which a cell of CSV is quoted
abbrev pub is_special : ℕ → Bool
is_special b = (b == 44) || (b == 34) || (b == 10) || (b == 13)

-- whether a cell of CSV is quoted
abbrev pub has_special : List ℕ → Bool
has_special text = list_any is_special text

-- a byte within a quoted cell of CSV
abbrev pub csv_byte : ℕ → List ℕ
csv_byte b = if b == 34 then 34 ∷ 34 ∷ [] else b ∷ []

-- the cell of CSV
abbrev pub csv_cell : List ℕ → List ℕ
csv_cell text = if has_special text then 34 ∷ flat_map csv_byte text ++ 34 ∷ [] else text
