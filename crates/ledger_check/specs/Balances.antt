-- What uploads have against what somebody else has of their taps.
use Rattle.ledger_check.specs.declared.balance.{Balance.Balance, Difference.Difference}
use Rattle.ledger_check.specs.declared.balance.Difference.TheVariants.{Missing, Surplus}
use Rattle.std.specs.{BTreeMap.BTreeMap, List.count_by, List.Sorted.IsPermutation, Option.unwrap_or}
use Rattle.std.specs.Ordering.{is_eq}
use Rattle.std.specs.Prelude.{◌≡◌, ℕ, ◌+◌, ◌<◌, Bool, List, map, Option, None, Some, MatchOption}
use Rattle.tap_views.specs.{Encoding.fields_of, Files.AreValidTaps, Layout.Tap, TapOrder.tap_cmp}
use Rattle.tap_views.specs.declared.encoder.TapFields.{TapFields}
use Rattle.std.specs.BTreeMap as tree

-- the fields of the valid taps of an upload, in their order
abbrev pub AreValidFields : List ℕ → List TapFields → Type 0
AreValidFields upload fields =
    (taps : List Tap) × AreValidTaps upload taps × (fields ≡ map fields_of taps)

-- whether both are taps of one token, at one moment and one validator
abbrev pub is_same : TapFields → TapFields → Bool
is_same tap other = is_eq (tap_cmp tap other)

-- how often the tap is among these
abbrev pub copies_among : TapFields → List TapFields → ℕ
copies_among tap taps = count_by (λ other. is_same other tap) taps

-- how many are left of the tap
abbrev pub left_at : BTreeMap TapFields ℕ → TapFields → ℕ
left_at left tap = unwrap_or (tree.get tap_cmp left tap) 0

-- the tap is more often among the others than among the valid taps
abbrev pub IsMore : List TapFields → List TapFields → TapFields → Type 0
IsMore valid others tap = copies_among tap valid < copies_among tap others

-- of each valid tap some were subtracted, and the rest are left; or a tap is known that was subtracted
-- more often than the uploads have it
abbrev pub IsBalance : Balance → List TapFields → List TapFields → Type 0
IsBalance balance valid subtracted =
    MatchOption balance.surplus
    ((tap : TapFields) → copies_among tap valid
    ≡ left_at balance.left tap + copies_among tap subtracted)
    (IsMore valid subtracted)

-- the others are the valid taps in some order; or the reported tap is more often on one side
abbrev pub IsDifference : List TapFields → List TapFields → Option Difference → Type 0
IsDifference valid others None = IsPermutation valid others
IsDifference valid others (Some (Missing tap)) = IsMore others valid tap
IsDifference valid others (Some (Surplus tap)) = IsMore valid others tap
