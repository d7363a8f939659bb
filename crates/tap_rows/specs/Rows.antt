-- A tap as a row of CSV: three fields, each as it is or in quotes, with commas between them.
use Rattle.hex.specs.Hex.{decode_sized, encode_lower, IsBytes}
use Rattle.std.specs.Fmt.{decimal}
use Rattle.std.specs.Prelude.{◌≡◌, ℕ, ◌<◌, ◌^◌, List, [], ◌∷◌, ◌++◌, length, Ok, flat_map}
use Rattle.tap_rows.specs.Fields.{AreFields, FieldRepresentsSome}
use Rattle.tap_rows.specs.{Moments.IsDecimal, Moments.IsMoment, declared.column.Column.Column}
use Rattle.tap_rows.specs.declared.column.Column.TheVariants.{Fields, Token, Validator, Moment}
use Rattle.tap_views.specs.{Layout.moment_limit, declared.encoder.TapFields.TapFields}

-- the text is 32 hexadecimal digits, of either case, and they spell these 16 bytes
abbrev pub IsToken : List ℕ → List ℕ → Type 0
IsToken text token = decode_sized text 16 ≡ Ok token

-- the text writes a validator's number
abbrev pub IsValidator : List ℕ → ℕ → Type 0
IsValidator text number = IsDecimal text number × (number < 2 ^ 32)

-- the text writes no validator's number
abbrev pub IsNoValidator : List ℕ → Type 0
IsNoValidator text = (number : ℕ) → ¬ (IsValidator text number)

-- the text of a field represents such a value, as it is or in quotes
abbrev pub IsTokenField : List ℕ → List ℕ → Type 0
IsTokenField text token = FieldRepresentsSome (λ value. IsToken value token) text

-- it represents a validator's number
abbrev pub IsValidatorField : List ℕ → ℕ → Type 0
IsValidatorField text number = FieldRepresentsSome (λ value. IsValidator value number) text

-- it represents a moment
abbrev pub IsMomentField : List ℕ → ℕ → Type 0
IsMomentField text number = FieldRepresentsSome (λ value. IsMoment value number) text

-- the line is a row of this tap
pub record IsTapRow (line : List ℕ) (tap : TapFields) : Type 0 where
  pub token_text : List ℕ
  pub validator_text : List ℕ
  pub moment_text : List ℕ
  pub fields : AreFields line token_text validator_text moment_text
  pub token : IsTokenField token_text tap.token
  pub validator : IsValidatorField validator_text tap.validator
  pub moment : IsMomentField moment_text tap.moment

-- the line has three fields, and the token's gives no token
pub record HasNoToken (line : List ℕ) : Type 0 where
  pub token_text : List ℕ
  pub validator_text : List ℕ
  pub moment_text : List ℕ
  pub fields : AreFields line token_text validator_text moment_text
  pub wrong : (token : List ℕ) → ¬ (IsTokenField token_text token)

-- the line has three fields, the first gives a token, and the second no validator
pub record HasNoValidator (line : List ℕ) : Type 0 where
  pub token_text : List ℕ
  pub validator_text : List ℕ
  pub moment_text : List ℕ
  pub fields : AreFields line token_text validator_text moment_text
  pub token : (token : List ℕ) × IsTokenField token_text token
  pub wrong : (number : ℕ) → ¬ (IsValidatorField validator_text number)

-- the line has three fields, the first two give a token and a validator, and the third no moment
pub record HasNoMoment (line : List ℕ) : Type 0 where
  pub token_text : List ℕ
  pub validator_text : List ℕ
  pub moment_text : List ℕ
  pub fields : AreFields line token_text validator_text moment_text
  pub token : (token : List ℕ) × IsTokenField token_text token
  pub validator : (number : ℕ) × IsValidatorField validator_text number
  pub wrong : (number : ℕ) → ¬ (IsMomentField moment_text number)

-- the line is a row of no tap, and this is the first column that is wrong
abbrev pub IsNoTapRow : List ℕ → Column → Type 0
IsNoTapRow line Fields =
    (token validator moment : List ℕ) → ¬ (AreFields line token validator moment)
IsNoTapRow line Token = HasNoToken line
IsNoTapRow line Validator = HasNoValidator line
IsNoTapRow line Moment = HasNoMoment line

-- the row of a tap as it is written, with its line feed
abbrev pub row_text : TapFields → List ℕ
row_text tap =
    encode_lower tap.token ++ 44 ∷ (decimal tap.validator ++ 44 ∷ (decimal tap.moment ++ 10 ∷ []))

-- the rows of taps, in their order
abbrev pub rows_text : List TapFields → List ℕ
rows_text taps = flat_map row_text taps

-- what the types of a tap's fields say, and that its moment is below the limit
pub record IsTapFields (tap : TapFields) : Type 0 where
  pub token : length tap.token ≡ 16
  pub bytes : IsBytes tap.token
  pub validator : tap.validator < 2 ^ 32
  pub moment : tap.moment < moment_limit
