-- What a tap costs: its charge by `window`, lowered to the least that a further cap leaves.
use Rattle.account_rule.specs.{Taps.LiveTap, Windows.charged_by, Windows.paid_by}
use Rattle.account_rule.specs.declared.reason.Charge.{Charge}
use Rattle.account_rule.specs.declared.reason.Charge.TheVariants.{CeilingCut, CeilingReached, Full}
use Rattle.account_rule.specs.declared.reason.Charge.TheVariants.{RideLimitReached}
use Rattle.fare_caps.specs.{Caps.CapRules, Caps.left, declared.cap_charge.CapCharge.CapCharge}
use Rattle.fare_caps.specs.declared.cap_charge.CapCharge.TheVariants.{ByWindow, CapCut, CapReached}
use Rattle.fare_caps.specs.declared.{cap_charge.CapLeft.CapLeft, cap_window.CapWindow.CapWindow}
use Rattle.std.specs.Prelude.{ℕ, suc, ◌==◌, Bool, true, false, if◌then◌else◌, List, [], ◌∷◌, nat_lt}
use Rattle.std.specs.Prelude.{Option, Some, None}

-- the lesser of what caps before leave and what the cap at the index leaves: of two the first
abbrev pub lesser : Option CapLeft → ℕ → Option ℕ → Option CapLeft
lesser least index None = least
lesser None index (Some cents) = Some (record { cents = cents; cap = index })
lesser (Some least) index (Some cents) =
    if nat_lt cents least.cents then Some (record { cents = cents; cap = index }) else Some least

-- the least that caps leave, the first of them at the index, or that those before them leave
unfoldable pub least_from : ℕ → Option CapLeft → LiveTap → List CapRules → List CapWindow
    → Option CapLeft
least_from index least ride [] windows = least
least_from index least ride (cap ∷ caps) [] = least
least_from index least ride (cap ∷ caps) (window ∷ windows) =
    least_from (suc index) (lesser least index (left ride cap window)) ride caps windows

-- a charge of cents by `window`, lowered to what a cap leaves if that is less. If it leaves nothing
-- the ride is free, whatever its fare.
abbrev pub lowered_by : Charge → ℕ → ℕ → Option CapLeft → CapCharge
lowered_by charge position cents None = ByWindow charge
lowered_by charge position cents (Some least) =
    if least.cents == 0 then CapReached position least.cap
    else (if nat_lt least.cents cents then CapCut position least.cents least.cap
    else ByWindow charge)

-- The charge by `window`, lowered. A ride that `window` frees is free by `window`.
abbrev pub lowered : Option CapLeft → Charge → CapCharge
lowered least (Full position cents) = lowered_by (Full position cents) position cents least
lowered least (CeilingCut position cents) =
    lowered_by (CeilingCut position cents) position cents least
lowered least (CeilingReached position) = ByWindow (CeilingReached position)
lowered least RideLimitReached = ByWindow RideLimitReached

-- the cents that follow from what decides them
abbrev pub cap_cents : CapCharge → ℕ
cap_cents (ByWindow charge) = charged_by charge
cap_cents (CapCut position cents cap) = cents
cap_cents (CapReached position cap) = 0

-- the cents that are paid, if no limit is reached
abbrev pub cap_paid : CapCharge → Option ℕ
cap_paid (ByWindow charge) = paid_by charge
cap_paid (CapCut position cents cap) = Some cents
cap_paid (CapReached position cap) = None

-- whether the limit of rides frees the ride
abbrev pub is_freed_by : Charge → Bool
is_freed_by (Full position cents) = false
is_freed_by (CeilingCut position cents) = false
is_freed_by (CeilingReached position) = false
is_freed_by RideLimitReached = true

-- whether the limit of rides frees the ride
abbrev pub is_freed : CapCharge → Bool
is_freed (ByWindow charge) = is_freed_by charge
is_freed (CapCut position cents cap) = false
is_freed (CapReached position cap) = false
