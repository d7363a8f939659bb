-- The words that end an explained line, after the entry's own.
use Rattle.std.specs.Prelude.{◌≡◌, ℕ, ◌+◌, ◌<◌, List, [], ◌++◌, length, codes, slice_index_or}
use Rattle.std.specs.Fmt.{decimal}
use Rattle.tariffs.specs.Fares.{Fares}
use Rattle.account_rule.specs.declared.reason.Charge.{Charge}
use Rattle.account_rule.specs.declared.reason.Charge.TheVariants.{Full, CeilingCut, CeilingReached}
use Rattle.account_rule.specs.declared.reason.Charge.TheVariants.{RideLimitReached}
use Rattle.fare_caps.specs.declared.cap_charge.CapCharge.{CapCharge}
use Rattle.fare_caps.specs.declared.cap_charge.CapCharge.TheVariants.{ByWindow, CapCut, CapReached}
use Rattle.fare_caps.specs.declared.capped_reason.CappedReason.{CappedReason}
use Rattle.fare_caps.specs.declared.capped_reason.CappedReason.TheVariants.{PaidTransfer, Ride}
use Rattle.fare_caps.specs.declared.capped_reason.CappedReason.TheVariants.{Stale, Transfer, Unknown}
use Rattle.fare_texts.specs.Moments.{IsMomentText}

-- the mode that gives a transfer is the table's
abbrev pub HasModeOf : Fares → CappedReason → Type 0
HasModeOf fares Unknown = Unit {0}
HasModeOf fares (Stale latest) = Unit {0}
HasModeOf fares (Transfer moment mode) = mode.position < length fares.meaning.modes
HasModeOf fares (PaidTransfer start until moment mode charge) =
    mode.position < length fares.meaning.modes
HasModeOf fares (Ride start until charge) = Unit {0}

-- ` because it is ride 3 of the window`
unfoldable pub position_start : ℕ → List ℕ
position_start position = codes " because it is ride " ++ (decimal (position + 1) ++ codes " of the window")

-- the words of a charge before the window: ` because it is ride 3 of the window`
abbrev pub window_charge_start : Charge → List ℕ
window_charge_start (Full position cents) = position_start position
window_charge_start (CeilingCut position cents) = position_start position
window_charge_start (CeilingReached position) = position_start position
window_charge_start RideLimitReached = codes " because the ride limit of the window"

unfoldable pub charge_start : CapCharge → List ℕ
charge_start (ByWindow charge) = window_charge_start charge
charge_start (CapCut position cents cap) = position_start position
charge_start (CapReached position cap) = position_start position

-- the words of a charge after the window: ` at full fare`
abbrev pub window_charge_end : Charge → List ℕ
window_charge_end (Full position cents) = codes " at full fare"
window_charge_end (CeilingCut position cents) = codes " cut by the ceiling"
window_charge_end (CeilingReached position) = codes " past the ceiling"
window_charge_end RideLimitReached = codes " is reached"

-- a cap that decides is named: ` cut by the cap month`
abbrev pub charge_end : List (List ℕ) → CapCharge → List ℕ
charge_end caps (ByWindow charge) = window_charge_end charge
charge_end caps (CapCut position cents cap) =
    codes " cut by the cap " ++ slice_index_or caps cap []
charge_end caps (CapReached position cap) = codes " past the cap " ++ slice_index_or caps cap []

-- ` from 2024-03-08T17:00:00.000Z until 2024-03-15T17:00:00.000Z`
pub record IsWindowText (start until : ℕ) (text : List ℕ) : Type 0 where
  pub from : List ℕ
  pub starts : IsMomentText start from
  pub to : List ℕ
  pub ends : IsMomentText until to
  pub shown : text ≡ codes " from " ++ (from ++ (codes " until " ++ to))

-- ` because a tap of 2024-03-08T17:00:00.000Z is not earlier`
pub record IsStaleText (latest : ℕ) (text : List ℕ) : Type 0 where
  pub moment : List ℕ
  pub is : IsMomentText latest moment
  pub shown : text ≡ codes " because a tap of " ++ (moment ++ codes " is not earlier")

-- ` because the subway ride of `
unfoldable pub giver_start : List ℕ → List ℕ
giver_start mode = codes " because the " ++ (mode ++ codes " ride of ")

-- how `window` decided the cents of a transfer, which no limit of rides frees
abbrev pub window_transfer_end : Charge → List ℕ
window_transfer_end (Full position cents) = codes " at full price"
window_transfer_end (CeilingCut position cents) = codes " cut by the ceiling"
window_transfer_end (CeilingReached position) = codes " past the ceiling"
window_transfer_end RideLimitReached = []

-- a cap that decides is named: ` cut by the cap month`
abbrev pub transfer_end : List (List ℕ) → CapCharge → List ℕ
transfer_end caps (ByWindow charge) = window_transfer_end charge
transfer_end caps (CapCut position cents cap) =
    codes " cut by the cap " ++ slice_index_or caps cap []
transfer_end caps (CapReached position cap) = codes " past the cap " ++ slice_index_or caps cap []

-- ` because the subway ride of 2024-03-08T17:00:00.000Z gives it`, and this end
pub record IsTransferText (mode : List ℕ) (at : ℕ) (end : List ℕ) (text : List ℕ) : Type 0 where
  pub moment : List ℕ
  pub is : IsMomentText at moment
  pub shown : text ≡ giver_start mode ++ (moment ++ (codes " gives it" ++ end))

-- ` because it is ride 3 of the window from .. until .. at full fare`
pub record IsRideText (caps : List (List ℕ)) (start until : ℕ) (charge : CapCharge) (text : List ℕ)
    : Type 0 where
  pub window : List ℕ
  pub is : IsWindowText start until window
  pub shown : text ≡ charge_start charge ++ (window ++ charge_end caps charge)

-- the text says the reason, by the names of the table
abbrev pub IsReasonWords : Fares → CappedReason → List ℕ → Type 0
IsReasonWords fares Unknown text = text ≡ codes " because the table has no such validator"
IsReasonWords fares (Stale latest) text = IsStaleText latest text
IsReasonWords fares (Transfer moment mode) text =
    IsTransferText (slice_index_or fares.meaning.modes mode.position []) moment [] text
IsReasonWords fares (PaidTransfer start until moment mode charge) text =
    IsTransferText (slice_index_or fares.meaning.modes mode.position []) moment
    (transfer_end fares.meaning.cap_names charge) text
IsReasonWords fares (Ride start until charge) text =
    IsRideText fares.meaning.cap_names start until charge text
