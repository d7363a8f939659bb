-- What the taps of a token cost under caps and prices, and the windows of each cap.
use Rattle.account_rule.specs.{Blocks.blocks_by, declared.tap.TapIn.TapIn}
use Rattle.fare_caps.specs.CapStates.{CapStates, after_due, due_charge, no_rides}
use Rattle.fare_caps.specs.{Caps.CapRules, Caps.CappedRules, Caps.window_cap, Charges.cap_cents}
use Rattle.fare_caps.specs.Prices.{Due, due_tap, dues, of_ride, of_transfer}
use Rattle.fare_caps.specs.declared.cap_charge.CapCharge.{CapCharge}
use Rattle.std.specs.Prelude.{ℕ, Bool, true, false, if◌then◌else◌, List, [], ◌∷◌, nat_lt, sum_by}
use Rattle.std.specs.Prelude.{Option, Some, None}

-- a ride or a transfer, and what it costs
pub record Charged : Type 0 where
  pub due : Due
  pub cents : ℕ

-- those after a tap, and it before them if something decides its cents
abbrev pub with_charged : Due → Option CapCharge → List Charged → List Charged
with_charged due None more = more
with_charged due (Some charge) more = record { due = due; cents = cap_cents charge } ∷ more

-- each tap and what it costs, after those that made the states
unfoldable pub charged_after : CappedRules → CapStates → List Due → List Charged
charged_after capped states [] = []
charged_after capped states (due ∷ more) =
    with_charged due (due_charge capped states due)
    (charged_after capped (after_due capped states due) more)

-- each ride of the taps and each transfer that may cost something, and what it costs
unfoldable pub charged : CappedRules → List TapIn → List Charged
charged capped taps = charged_after capped (no_rides capped) (dues capped taps)

-- `window`, and the caps beside it
abbrev pub all_caps : CappedRules → List CapRules
all_caps capped = window_cap capped.rules ∷ capped.caps

-- the end of a window that the tap begins: a transfer begins none
abbrev pub end_by : CapRules → Due → ℕ
end_by cap (of_ride tap) = cap.until tap.moment
end_by cap (of_transfer tap cents) = 0

-- whether the tap is of the window that ends at the moment: a ride before it, or a transfer of a
-- ride of the window
abbrev pub is_before : ℕ → Due → Bool
is_before end (of_ride tap) = nat_lt tap.moment end
is_before end (of_transfer tap cents) = true

-- whether the tap is of the window, whose end its first ride sets
unfoldable pub is_in : CapRules → List Charged → Charged → Bool
is_in cap [] one = false
is_in cap (first ∷ _) one = is_before (end_by cap first.due) one.due

-- the taps, divided into windows of the cap
unfoldable pub windows_of : CapRules → List Charged → List (List Charged)
windows_of cap taps = blocks_by (is_in cap) taps

-- what the cap counts of a tap
abbrev pub cents_for : CapRules → Charged → ℕ
cents_for cap one = if cap.counts (due_tap one.due) then one.cents else 0

-- what the cap counts in a window
unfoldable pub counted_in : CapRules → List Charged → ℕ
counted_in cap window = sum_by (cents_for cap) window
