-- What the numbers in a report's lines can be.
use Rattle.histories.specs.Sums.{Sums}
use Rattle.std.specs.Prelude.{◌≡◌, ℕ, ◌+◌, ◌*◌, ◌<◌, ◌≤◌, ◌^◌}
use Rattle.tap_views.specs.{Token.Fits, declared.fault.LayoutFault.LayoutFault}
use Rattle.tap_views.specs.declared.fault.LayoutFault.TheVariants.{Short, Magic, Flags, TooMany}
use Rattle.tap_views.specs.declared.fault.LayoutFault.TheVariants.{Length, Moment}
use Rattle.tap_views.specs.declared.{token.Token.Token, upload_end.UploadEnd.UploadEnd}
use Rattle.tap_views.specs.declared.upload_end.UploadEnd.TheVariants.{Posted, Refused, Cut, Undrawn}

-- a fault as a line has it, by its name: each of its own numbers, which no line has, is 0
abbrev pub IsNameAlone : LayoutFault → Type 0
IsNameAlone (Short have) = have ≡ 0
IsNameAlone Magic = Unit {0}
IsNameAlone Flags = Unit {0}
IsNameAlone (TooMany count) = count ≡ 0
IsNameAlone (Length want have) = (want ≡ 0) × (have ≡ 0)
IsNameAlone (Moment index) = index ≡ 0

-- an end as the line of an upload that was posted or refused has it: the numbers have 64 bits
abbrev pub IsUploadEnd : UploadEnd → Type 0
IsUploadEnd (Posted taps) = taps < 2 ^ 64
IsUploadEnd (Refused taps offset fault) =
    (taps < 2 ^ 64) × (offset < 2 ^ 64) × IsNameAlone fault
IsUploadEnd (Cut taps) = ⊥
IsUploadEnd Undrawn = ⊥

-- The counts have 64 bits. Each tap has one answer, and no more cents than 32 bits hold.
pub record AreCounts (sums : Sums) : Type 0 where
  pub taps : sums.taps < 2 ^ 64
  pub answers : sums.taps ≡ sums.paid + sums.transfers + sums.capped + sums.stale + sums.unknown
  pub cents : sums.cents < 2 ^ 64
  pub most : sums.cents ≤ sums.taps * 4294967295

-- a validator has 32 bits, and its counts are such ones
pub record IsValidatorSum (sum : ℕ × Sums) : Type 0 where
  pub validator : sum.0 < 2 ^ 32
  pub counts : AreCounts sum.1

-- a token has 16 bytes, and its counts are such ones
pub record IsTokenSum (sum : Token × Sums) : Type 0 where
  pub token : Fits sum.0
  pub counts : AreCounts sum.1
