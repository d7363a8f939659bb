-- The fields of a line of CSV, and the values that their texts represent. A field is as it is,
-- or between two double quotes; no value that a table has needs more of RFC 4180.
use Rattle.std.specs.Prelude.{◌≡◌, ◌⊎◌, ℕ, List, [], ◌∷◌, ◌++◌, All}

-- no byte of the text is a comma
abbrev pub HasNoComma : List ℕ → Type 0
HasNoComma text = All (λ byte. ¬ (byte ≡ 44)) text

-- the line is these three fields, with a comma after each but the last, and none within any
pub record AreFields (line first second third : List ℕ) : Type 0 where
  pub joined : line ≡ first ++ 44 ∷ (second ++ 44 ∷ third)
  pub no_comma_first : HasNoComma first
  pub no_comma_second : HasNoComma second
  pub no_comma_third : HasNoComma third

-- the text is the value as it is, and its first byte is not a double quote
pub record IsBare (text value : List ℕ) : Type 0 where
  pub same : text ≡ value
  pub unquoted : (rest : List ℕ) → ¬ (text ≡ 34 ∷ rest)

-- the text is a double quote, the value, and a double quote
abbrev pub IsQuoted : List ℕ → List ℕ → Type 0
IsQuoted text value = text ≡ 34 ∷ (value ++ 34 ∷ [])

-- the text of a field represents the value in one of the two ways
abbrev pub FieldRepresents : List ℕ → List ℕ → Type 0
FieldRepresents text value = IsBare text value ⊎ IsQuoted text value

-- the text of a field represents a value of this kind
abbrev pub FieldRepresentsSome : (List ℕ → Type 0) → List ℕ → Type 0
FieldRepresentsSome IsOne text = (value : List ℕ) × FieldRepresents text value × IsOne value
