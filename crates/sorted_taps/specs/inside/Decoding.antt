-- Batches that are decoded from the front of some bytes.
use Rattle.sorted_taps.specs.Reading.{AreFrontTaps, AreTapsBetween}
use Rattle.sorted_taps.specs.declared.{decoded_taps.Decoded.Decoded, fault.SortedFault.SortedFault}
use Rattle.sorted_taps.specs.declared.fault.SortedFault.TheVariants.{Layout, OutOfOrder}
use Rattle.std.specs.Prelude.{◌≡◌, ℕ, ◌+◌, ◌<◌, ◌≤◌, List, [], length, take, drop, None, IfSome}
use Rattle.tap_views.specs.{Faults.IsFault, declared.encoder.TapFields.TapFields}

-- the bytes begin with batches of these taps; what follows has the fault; and without a batch or a
-- fault there are no bytes
pub record IsDecoded (bytes : List ℕ) (taps : List TapFields) (decoded : Decoded) : Type 0 where
  pub rest : List ℕ
  pub front_taps : AreFrontTaps bytes rest taps
  pub size : decoded.used + length rest ≡ length bytes
  pub fault : IfSome decoded.fault (λ fault. IsFault rest fault × (0 < length rest))
  pub some : decoded.used ≡ 0 → decoded.fault ≡ None → bytes ≡ []

-- as many bytes of the file as there is room for, from this offset on, were decoded
pub record IsDecodedAt (all : List ℕ) (offset room : ℕ) (taps : List TapFields)
    (decoded : Decoded) : Type 0 where
  pub count : ℕ
  pub within : count ≤ length (drop offset all)
  pub short : count < room → count ≡ length (drop offset all)
  pub is_decoded : IsDecoded (take count (drop offset all)) taps decoded

-- the file has batches of these taps in this many bytes from this offset on; it has none only at
-- its end
pub record IsReadOn (all : List ℕ) (offset : ℕ) (taps : List TapFields) (used : ℕ) : Type 0 where
  pub between : AreTapsBetween all offset (offset + used) taps
  pub end : used ≡ 0 → drop offset all ≡ []

-- a read failed, or an allocation failed
abbrev pub IsNoLayoutFault : SortedFault → Type 0
IsNoLayoutFault (OutOfOrder tap) = ⊥
IsNoLayoutFault (Layout offset fault) = ⊥
IsNoLayoutFault fault = Unit {0}

-- the bytes from this offset on have the layout fault
abbrev pub IsReadFault : List ℕ → ℕ → SortedFault → Type 0
IsReadFault all offset (Layout at fault) =
    (at ≡ offset) × (0 < length (drop offset all)) × IsFault (drop offset all) fault
IsReadFault all offset (OutOfOrder tap) = ⊥
IsReadFault all offset fault = Unit {0}
