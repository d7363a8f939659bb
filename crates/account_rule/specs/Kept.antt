-- What an account keeps, and what its private functions make of it.
use Rattle.account_rule.specs.{Taps.LiveTap, Taps.live_at, TokenRules.TokenRules, Trips.TripEnd}
use Rattle.account_rule.specs.declared.{account.Account.Account, window.Window.Window}
use Rattle.std.specs.Prelude.{◌≡◌, ℕ, ◌<◌, ◌≤◌, Bool, true, if◌then◌else◌, nat_lt, Option, Some}
use Rattle.std.specs.Prelude.{None, option_map}

-- what is kept from the first live tap on, which is a ride and so opens a window
pub record Kept : Type 0 where
  -- the last live tap
  pub last : LiveTap
  -- the last ride
  pub ride : LiveTap
  -- how many transfers followed it
  pub given : ℕ
  -- the place of the token's class at the last live tap
  pub class : ℕ
  pub window : Window

-- what the account's fields contain
abbrev pub kept_numbers : Account → Kept
kept_numbers account =
    record {
      last = live_at account.last account.mode;
      ride = live_at account.ride account.ride_mode;
      given = account.given;
      class = account.class;
      window = account.window;
    }

-- what the account keeps, if it has seen a live tap
unfoldable pub kept_of : Account → Option Kept
kept_of account = if account.has_window then Some (kept_numbers account) else None

-- whether the moment is after the last live tap's
unfoldable pub is_after : Option Kept → ℕ → Bool
is_after None moment = true
is_after (Some state) moment = nat_lt state.last.moment moment

-- the end of the last trip
unfoldable pub kept_trip : Option Kept → Option TripEnd
kept_trip None = None
kept_trip (Some state) =
    Some (record { ride = state.ride; last = state.last; given = state.given })

-- the last window
unfoldable pub kept_window : Option Kept → Option Window
kept_window state = option_map (λ s. s.window) state

-- the class at the place is the token's at the moment, and there is one
pub record IsClass (rules : TokenRules) (moment class : ℕ) : Type 0 where
  pub is : class ≡ rules.class moment
  pub there : class < rules.classes moment

-- the numbers of the window leave room for one more ride
pub record IsRoomy (window : Window) : Type 0 where
  pub rides : window.rides ≤ 60_000
  pub paid : window.paid ≤ window.rides
  pub cents : window.cents ≤ 100_000_000
