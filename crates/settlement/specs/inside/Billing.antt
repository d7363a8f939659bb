-- What is known of parts and of their bill while more taps are posted.
use Rattle.settlement.specs.{Bills.IsBillOf, Nondecreasing.last_token, OpenBills.IsOpenBill}
use Rattle.settlement.specs.Posted.{posted}
use Rattle.settlement.specs.declared.{bill.Bill.Bill, open_bill.OpenBill.OpenBill}
use Rattle.std.specs.Prelude.{◌≡◌, ◌+◌, ◌<◌, ◌≤◌, ◌^◌, ℕ, List, All, length, slice_index_or, []}
use Rattle.std.specs.Prelude.{flat_map}
use Rattle.tap_parts.specs.{Canonical.HasTokenBytes, Canonical.IsCanonical, Ranges.range_of_token}
use Rattle.tap_views.specs.{Layout.moment_limit, declared.encoder.TapFields.TapFields}
use Rattle.tariffs.specs.Fares.{Fares}

-- the tap has a moment before 2100, and a token of 16 bytes in one of these ranges
pub record IsSoundTap (bounds : List ℕ) (low high : ℕ) (tap : TapFields) : Type 0 where
  pub early : tap.moment < moment_limit
  pub token : HasTokenBytes tap
  pub least : low ≤ range_of_token bounds tap.token
  pub most : range_of_token bounds tap.token < high

-- the parts are ranges of tokens, one after the other, from the one of this number on
abbrev pub AreRangesFrom : List ℕ → ℕ → List (List TapFields) → Type 0
AreRangesFrom bounds start parts =
    (part : ℕ) → part < length parts
    → All (IsSoundTap bounds (start + part) (start + part + 1)) (slice_index_or parts part [])

-- the parts are ranges of tokens, one after the other, and their taps can be counted
abbrev pub AreFewInRanges : List (List TapFields) → Type 0
AreFewInRanges parts =
    (bounds : List ℕ) × (start : ℕ) × AreRangesFrom bounds start parts
    × (length (flat_map (λ part. part) parts) < 2 ^ 64)

-- the taps were added to the bill in canonical order, from the least token on
pub record AreAdded (fares : Fares) (taps : List TapFields) (bill : OpenBill) : Type 0 where
  pub order : List TapFields
  pub canonical : IsCanonical taps order
  pub is_open : IsOpenBill fares order bill
  pub token : bill.replay.token ≡ last_token (record { high = 0; low = 0 }) order

-- the bill is that of the taps, posted in canonical order
pub record IsBillOfTaps (fares : Fares) (taps : List TapFields) (bill : Bill) : Type 0 where
  pub order : List TapFields
  pub canonical : IsCanonical taps order
  pub billed : IsBillOf (posted fares order) bill
  pub few : length order < 2 ^ 64
