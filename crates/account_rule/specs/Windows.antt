-- The windows of a token's rides, and what the rides of a window cost.
use Rattle.account_rule.specs.{Blocks.blocks_by, Blocks.last_block, Taps.LiveTap}
use Rattle.account_rule.specs.{TokenRules.TokenRules, Trips.rides, declared.reason.Charge.Charge}
use Rattle.account_rule.specs.declared.reason.Charge.TheVariants.{Full, CeilingCut, CeilingReached}
use Rattle.account_rule.specs.declared.{reason.Charge.TheVariants.RideLimitReached, tap.TapIn.TapIn}
use Rattle.account_rule.specs.declared.window.WindowView.{WindowView}
use Rattle.std.specs.Prelude.{ℕ, suc, ◌+◌, ◌-◌, Bool, false, if◌then◌else◌, List, [], ◌∷◌, is_some}
use Rattle.std.specs.Prelude.{nat_lt, nat_le, Option, Some, None, sum_by, count_by}
use Rattle.tariffs.specs.declared.terms.Terms.{Terms}

-- whether the ride is before the end of the window, which its first ride sets
unfoldable pub is_within : (ℕ → ℕ) → List LiveTap → LiveTap → Bool
is_within until [] ride = false
is_within until (first ∷ _) ride = nat_lt ride.moment (until first.moment)

-- the rides, divided into windows
unfoldable pub windows : TokenRules → List TapIn → List (List LiveTap)
windows rules taps = blocks_by (is_within rules.until) (rides rules taps)

-- what decides the cents of a ride, by its terms: its window has had this number of rides, which
-- cost this number of cents
unfoldable pub charge : Terms → ℕ → ℕ → Charge
charge terms rides cents =
    if nat_le terms.rides rides then RideLimitReached
    else (if nat_le terms.ceiling cents then CeilingReached rides
    else (if nat_le (cents + terms.fare) terms.ceiling then Full rides terms.fare
    else CeilingCut rides (terms.ceiling - cents)))

-- the cents that follow from what decides them
abbrev pub charged_by : Charge → ℕ
charged_by (Full position cents) = cents
charged_by (CeilingCut position cents) = cents
charged_by (CeilingReached position) = 0
charged_by RideLimitReached = 0

-- the cents that are paid, if no limit is reached
abbrev pub paid_by : Charge → Option ℕ
paid_by (Full position cents) = Some cents
paid_by (CeilingCut position cents) = Some cents
paid_by (CeilingReached position) = None
paid_by RideLimitReached = None

-- what decides the cents of each of the rides, which follow a number of rides of their window and
-- their cents
unfoldable pub charges_after : (LiveTap → Terms) → ℕ → ℕ → List LiveTap → List Charge
charges_after terms rides cents [] = []
charges_after terms rides cents (ride ∷ more) =
    charge (terms ride) rides cents
    ∷ charges_after terms (suc rides) (cents + charged_by (charge (terms ride) rides cents)) more

-- what decides the cents of each ride of a window
unfoldable pub charges : (LiveTap → Terms) → List LiveTap → List Charge
charges terms window = charges_after terms 0 0 window

-- whether the ride is paid: no limit is reached
unfoldable pub is_paid : Charge → Bool
is_paid charge = is_some (paid_by charge)

-- how many rides of a window are paid
unfoldable pub paid_rides : (LiveTap → Terms) → List LiveTap → ℕ
paid_rides terms window = count_by is_paid (charges terms window)

-- the cents of a window
unfoldable pub window_cents : (LiveTap → Terms) → List LiveTap → ℕ
window_cents terms window = sum_by charged_by (charges terms window)

-- what a window shows
unfoldable pub shown_window : TokenRules → List LiveTap → Option WindowView
shown_window rules [] = None
shown_window rules (first ∷ window) = Some (record {
  start = first.moment;
  until = rules.until first.moment;
  paid = paid_rides rules.terms (first ∷ window);
  cents = window_cents rules.terms (first ∷ window);
})

-- the last window of the taps
unfoldable pub last_window : TokenRules → List TapIn → Option WindowView
last_window rules taps = shown_window rules (last_block (windows rules taps))
