-- Caps beside `window`: when their windows end, what they count, and what they leave.
use Rattle.account_rule.specs.{Taps.LiveTap, TokenRules.TokenRules}
use Rattle.fare_caps.specs.declared.cap_window.CapWindow.{CapWindow}
use Rattle.std.specs.Prelude.{ℕ, ◌+◌, ◌-◌, ◌==◌, ◌||◌, Bool, true, not, if◌then◌else◌, List, []}
use Rattle.std.specs.Prelude.{◌∷◌, length, nat_lt, Option, Some, None, is_some}
use Rattle.tariffs.specs.declared.{mode.Mode.Mode, price.Pays.Pays}

-- What the rule takes from a cap for the taps of one token. What it says of a tap may depend on the
-- tap's moment and mode.
pub record CapRules : Type 0 where
  -- the end of a window whose first ride, of whatever mode, is at the moment
  pub until : ℕ → ℕ
  -- whether the cap counts the tap
  pub counts : LiveTap → Bool
  -- the most that the taps which it counts may cost in a window, by the last of them
  pub ceiling : LiveTap → ℕ

-- the rules of a token, the caps beside `window` in the order of their names, and, if any transfer
-- costs something, what a transfer from a mode to a tap pays if it is not free
pub record CappedRules : Type 0 where
  pub rules : TokenRules
  pub caps : List CapRules
  pub pays : Option (Mode → LiveTap → Option Pays)

-- whether there are caps, or prices of transfers
abbrev pub has_more : CappedRules → Bool
has_more capped = not (length capped.caps == 0) || is_some capped.pays

-- `window` as a cap: it counts all taps
unfoldable pub window_cap : TokenRules → CapRules
window_cap rules = record {
  until = rules.until;
  counts = λ ride. true;
  ceiling = λ ride. (rules.terms ride).ceiling;
}

-- the window before the first ride: it has ended
unfoldable pub no_window : CapWindow
no_window = record { start = 0; until = 0; cents = 0 }

-- the window of a ride at the moment: the one before, or one that the ride opens
unfoldable pub opened_until : ℕ → ℕ → CapWindow → CapWindow
opened_until moment until window =
    if nat_lt moment window.until then window
    else record { start = moment; until = until; cents = 0 }

-- the window of a cap, at a ride
unfoldable pub opened : LiveTap → CapRules → CapWindow → CapWindow
opened ride cap window = opened_until ride.moment (cap.until ride.moment) window

-- what a cap leaves for a tap in its window, if it counts the tap
unfoldable pub left : LiveTap → CapRules → CapWindow → Option ℕ
left ride cap window =
    if cap.counts ride then Some (cap.ceiling ride - window.cents) else None

-- the window with the cents of one more tap, if its cap counts the tap
unfoldable pub counted : LiveTap → ℕ → CapRules → CapWindow → CapWindow
counted ride cents cap window =
    record window { cents = window.cents + (if cap.counts ride then cents else 0) }

-- each cap with its window
unfoldable pub each_window : (CapRules → CapWindow → CapWindow) → List CapRules → List CapWindow
    → List CapWindow
each_window change [] windows = []
each_window change (cap ∷ caps) [] = []
each_window change (cap ∷ caps) (window ∷ windows) =
    change cap window ∷ each_window change caps windows
