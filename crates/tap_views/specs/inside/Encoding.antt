-- Encoding: what private functions alone cite.
use Rattle.byteorder.specs.Endian.{big_bytes}
use Rattle.std.specs.Prelude.{◌≡◌, ℕ, ◌^◌, ◌<◌, length}
use Rattle.tap_views.specs.Layout.{Tap}
use Rattle.tap_views.specs.declared.encoder.{Tap2Fields.Tap2Fields, TapFields.TapFields}

-- the tap that is written for these fields
abbrev pub written : TapFields → Tap
written fields =
    record {
      token = fields.token;
      validator = big_bytes 4 fields.validator;
      moment = big_bytes 8 fields.moment;
    }

-- the tap that is written for these fields with the validator of its whole batch
abbrev pub written_2 : ℕ → Tap2Fields → Tap
written_2 validator fields =
    record {
      token = fields.token;
      validator = big_bytes 4 validator;
      moment = big_bytes 8 fields.moment;
    }

-- what the types of the fields say
pub record IsFields (fields : TapFields) : Type 0 where
  pub token : length fields.token ≡ 16
  pub validator : fields.validator < 2 ^ 32

-- what the type of the fields says: a token has 16 bytes
abbrev pub IsFields2 : Tap2Fields → Type 0
IsFields2 fields = length fields.token ≡ 16
