-- Which lists of taps an account represents.
use Rattle.account_rule.specs.{Blocks.last_block, Kept.IsClass}
use Rattle.account_rule.specs.Kept.{IsRoomy, Kept, is_after, kept_of, kept_trip, kept_window}
use Rattle.account_rule.specs.{Taps.LiveTap, Taps.is_later, TokenRules.TokenRules, Trips.last_trip}
use Rattle.account_rule.specs.Windows.{paid_rides, window_cents, windows}
use Rattle.account_rule.specs.declared.{account.Account.Account, tap.TapIn.TapIn}
use Rattle.account_rule.specs.declared.window.Window.{Window}
use Rattle.std.specs.Option.{ForSome}
use Rattle.std.specs.Prelude.{◌≡◌, ℕ, ◌<◌, ◌≤◌, List, [], ◌∷◌, length, min, Option, Some, None}

-- the numbers of a window, with its rides counted up to the highest ride limit of a table
unfoldable pub window_of : TokenRules → List LiveTap → Option Window
window_of rules [] = None
window_of rules (first ∷ window) = Some (record {
  start = first.moment;
  until = rules.until first.moment;
  rides = min (length (first ∷ window)) 60_000;
  paid = paid_rides rules.terms (first ∷ window);
  cents = window_cents rules.terms (first ∷ window);
})

-- what is kept represents the list: it is what decides every later reply
pub record KeepsOf (rules : TokenRules) (kept : Option Kept) (taps : List TapIn) : Type 0 where
  -- its last moment says which moments are later than all known taps
  pub last : (moment : ℕ) → is_after kept moment ≡ is_later taps moment
  -- its last trip is the list's
  pub trip : kept_trip kept ≡ last_trip rules taps
  -- its last trip has no tap before its ride
  pub order : ForSome (kept_trip kept) (λ trip. trip.ride.moment ≤ trip.last.moment)
  -- its window is the last one
  pub window : kept_window kept ≡ window_of rules (last_block (windows rules taps))
  -- its class is the token's at the last live tap
  pub class : ForSome kept (λ state. IsClass rules state.last.moment state.class)
  -- the modes that it keeps are the table's
  pub mode : ForSome (kept_trip kept) (λ trip. trip.last.mode.position < rules.modes)
  pub ride_mode : ForSome (kept_trip kept) (λ trip. trip.ride.mode.position < rules.modes)
  -- its window leaves room for one more ride
  pub room : ForSome (kept_window kept) IsRoomy

-- the account represents the list: what it keeps decides each later reply as the list does
unfoldable pub Represents : TokenRules → Account → List TapIn → Type 0
Represents rules account taps = KeepsOf rules (kept_of account) taps

-- there is a list of taps that the account represents
unfoldable pub RepresentsSome : TokenRules → Account → Type 0
RepresentsSome rules account = (taps : List TapIn) × Represents rules account taps
