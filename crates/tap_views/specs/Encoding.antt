-- What the encoders write, by what a reader gets back, and when they refuse.
use Rattle.std.specs.Prelude.{◌≡◌, ℕ, ◌<◌, ◌≤◌, List, length, map, take, slice_get, All, IsSomeAnd}
use Rattle.tap_views.specs.Layout.{num, moment_limit, Tap, Tap1, Tap2, IsBatchIn}
use Rattle.tap_views.specs.declared.encoder.EncodeFault.{EncodeFault}
use Rattle.tap_views.specs.declared.encoder.EncodeFault.TheVariants.{TooMany, Moment, NoMemory}
use Rattle.tap_views.specs.declared.encoder.{Tap2Fields.Tap2Fields, TapFields.TapFields}

-- the fields that a reader of a tap gets
abbrev pub fields_of : Tap → TapFields
fields_of tap = record { token = tap.token; validator = num tap.validator; moment = num tap.moment }

-- the fields that a reader of a tap gets beside the validator of the whole batch
abbrev pub fields_2_of : Tap → Tap2Fields
fields_2_of tap = record { token = tap.token; moment = num tap.moment }

-- the bytes are a `TAP1` batch, from which these fields are read again; as no batch begins another,
-- whatever comes after them
pub record Encodes (bytes : List ℕ) (fields : List TapFields) : Type 0 where
  pub taps : List Tap
  pub batch : IsBatchIn Tap1 bytes taps
  pub read : map fields_of taps ≡ fields

-- the bytes are a `TAP2` batch, from which this validator and these fields are read again
pub record Encodes2 (bytes : List ℕ) (validator : ℕ) (fields : List Tap2Fields) : Type 0 where
  pub written : List ℕ
  pub taps : List Tap
  pub batch : IsBatchIn (Tap2 written) bytes taps
  pub number : num written ≡ validator
  pub read : map fields_2_of taps ≡ fields

-- the fields of a tap that was written with the validator of its whole batch
abbrev pub with_validator : ℕ → Tap2Fields → TapFields
with_validator validator fields =
    record { token = fields.token; validator = validator; moment = fields.moment }

module _ {Fields : Type 0} (moment : Fields → ℕ) (taps : List Fields) where
  -- every moment is below the limit
  abbrev pub AreEarly : Type 0
  AreEarly = All (λ tap. moment tap < moment_limit) taps

  -- the taps may be in one batch
  abbrev pub AreEncodable : Type 0
  AreEncodable = (length taps ≤ 4096) × AreEarly

  -- the tap at this index is the first whose moment is not below it
  pub record IsFirstLate (index : ℕ) : Type 0 where
    pub late : IsSomeAnd (slice_get taps index) (λ tap. moment_limit ≤ moment tap)
    pub earlier : All (λ tap. moment tap < moment_limit) (take index taps)

  -- when taps are refused: out of memory only if nothing else is wrong
  abbrev pub IsRefused : EncodeFault → Type 0
  IsRefused TooMany = 4096 < length taps
  IsRefused (Moment index) = (length taps ≤ 4096) × IsFirstLate index
  IsRefused NoMemory = AreEncodable
