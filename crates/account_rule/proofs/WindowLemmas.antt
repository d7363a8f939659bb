-- The window that an account keeps, and the window of the rule.
use Rattle.std.proofs.Common.{◌≡◌, ℕ, suc, ◌+◌, ◌≤◌, true, false, cond, List, [], ◌∷◌, ◌++◌, length}
use Rattle.std.proofs.Common.{min, ltb, Some, None, option_map, IfSome, refl, ap, arith, inl, inr}
use Rattle.std.proofs.Common.{All}
use Rattle.account_rule.proofs.BlockLemmas.{length-push}
use Rattle.account_rule.proofs.LimitLemmas.{cents-push, charge-min, charged, last_charge-push}
use Rattle.account_rule.proofs.LimitLemmas.{limit_from, paid-push, paid_rides-le, window_cents-le}
use Rattle.account_rule.specs.{Kept.IsRoomy, Represents.window_of, Taps.LiveTap}
use Rattle.account_rule.specs.{TokenRules.TokenRules, Windows.charge, Windows.charges}
use Rattle.account_rule.specs.Windows.{charges_after, is_paid, is_within, paid_rides, shown_window}
use Rattle.account_rule.specs.{Windows.window_cents, declared.window.Window.Window}
use Rattle.account_rule.specs.inside.Kept.{open_window, shown_of, window_at, with_ride}
use Rattle.std.specs.List.{last_or}
use Rattle.tariffs.specs.{Terms.AreBoundedTerms, declared.terms.Terms.Terms}

counted : (rides : ℕ) → min (min rides 60_000 + 1) 60_000 ≡ min (suc rides) 60_000
counted rides = omega arith

-- a window with one more ride, or a window of that ride alone
abbrev pub after_ride : TokenRules → List LiveTap → LiveTap → List LiveTap
after_ride rules window ride =
    cond (is_within rules.until window ride) (window ++ ride ∷ []) (ride ∷ [])

-- the numbers of rides that opened a window at a moment
abbrev pub numbers : TokenRules → ℕ → List LiveTap → Window
numbers rules start window = record {
  start = start;
  until = rules.until start;
  rides = min (length window) 60_000;
  paid = paid_rides rules.terms window;
  cents = window_cents rules.terms window;
}

none_yet : (rules : TokenRules) (start : ℕ)
    → open_window start (rules.until start) ≡ numbers rules start []
unfolding open_window paid_rides window_cents charges charges_after
none_yet rules start = refl

-- one more ride is counted as the account counts it
numbers-push : (rules : TokenRules) (start : ℕ) (window : List LiveTap) (ride : LiveTap)
    (terms : Terms) → rules.terms ride ≡ terms → AreBoundedTerms terms
    → numbers rules start (window ++ ride ∷ []) ≡ with_ride terms (numbers rules start window)
unfolding with_ride
numbers-push rules start window ride terms same bounds =
    rw (
      paid-push rules.terms window ride,
      cents-push rules.terms window ride,
      same,
      charge-min terms (length window) (window_cents rules.terms window) bounds.rides_high,
      length-push window ride,
      counted (length window),
    ) refl

-- the numbers of the window after a ride are those before it with the ride counted
pub window_of-after : (rules : TokenRules) (window : List LiveTap) (ride : LiveTap) (terms : Terms)
    → rules.terms ride ≡ terms → AreBoundedTerms terms
    → window_of rules (after_ride rules window ride)
    ≡ Some (with_ride terms
    (window_at (window_of rules window) ride.moment (rules.until ride.moment)))
unfolding window_of window_at is_within
window_of-after rules [] ride terms same bounds =
    rw (none_yet rules ride.moment)
    (ap (λ (w : Window). Some w) (numbers-push rules ride.moment [] ride terms same bounds))
window_of-after rules (first ∷ window) ride terms same bounds =
    elim (ltb ride.moment (rules.until first.moment)) as (λ v.
    window_of rules (cond v (first ∷ (window ++ ride ∷ [])) (ride ∷ []))
    ≡ Some (with_ride terms (cond v (numbers rules first.moment (first ∷ window))
    (open_window ride.moment (rules.until ride.moment))))) [
      | true ↦ ap (λ (w : Window). Some w)
          (numbers-push rules first.moment (first ∷ window) ride terms same bounds)
      | false ↦ rw (none_yet rules ride.moment)
          (ap (λ (w : Window). Some w) (numbers-push rules ride.moment [] ride terms same bounds))
    ]

-- the charge of a ride behind others
charge-trailing : (rules : TokenRules) (start : ℕ) (window : List LiveTap) (ride : LiveTap)
    (terms : Terms) → rules.terms ride ≡ terms → AreBoundedTerms terms
    → last_or None (charges rules.terms (window ++ ride ∷ []))
    ≡ Some (charge terms (numbers rules start window).rides (numbers rules start window).cents)
charge-trailing rules start window ride terms same bounds =
    rw (
      last_charge-push rules.terms window ride,
      same,
      charge-min terms (length window) (window_cents rules.terms window) bounds.rides_high,
    ) refl

-- the ride costs what the counted rides say
pub charge-after : (rules : TokenRules) (window : List LiveTap) (ride : LiveTap) (terms : Terms)
    → rules.terms ride ≡ terms → AreBoundedTerms terms
    → last_or None (charges rules.terms (after_ride rules window ride))
    ≡ Some (charge terms
    (window_at (window_of rules window) ride.moment (rules.until ride.moment)).rides
    (window_at (window_of rules window) ride.moment (rules.until ride.moment)).cents)
unfolding window_of window_at is_within
charge-after rules [] ride terms same bounds =
    rw (none_yet rules ride.moment) (charge-trailing rules ride.moment [] ride terms same bounds)
charge-after rules (first ∷ window) ride terms same bounds =
    elim (ltb ride.moment (rules.until first.moment)) as (λ v.
    last_or None (charges rules.terms (cond v (first ∷ (window ++ ride ∷ [])) (ride ∷ [])))
    ≡ Some (charge terms (cond v (numbers rules first.moment (first ∷ window))
    (open_window ride.moment (rules.until ride.moment))).rides
    (cond v (numbers rules first.moment (first ∷ window))
    (open_window ride.moment (rules.until ride.moment))).cents)) [
      | true ↦ charge-trailing rules first.moment (first ∷ window) ride terms same bounds
      | false ↦ rw (none_yet rules ride.moment)
          (charge-trailing rules ride.moment [] ride terms same bounds)
    ]

same_window : (window : Window) (rides cents paid : ℕ) → window.cents ≡ cents → window.paid ≡ paid
    → record window { rides = rides }
    ≡ record window { rides = rides; cents = cents; paid = paid }
same_window window rides cents paid one two = cc

-- past the ride limit a ride is counted, and no more
pub with_free : (terms : Terms) (window : Window) → terms.rides ≤ window.rides
    → record window { rides = min (window.rides + 1) 60_000 } ≡ with_ride terms window
unfolding with_ride is_paid
with_free terms window limit =
    rw (limit_from terms window.rides window.cents limit)
    (same_window window (min (window.rides + 1) 60_000) (window.cents + 0) (window.paid + 0)
    (omega arith) (omega arith))

-- a window without rides leaves room for one, and one more ride leaves room for the next
pub room-open : (start until : ℕ) → IsRoomy (open_window start until)
unfolding open_window
room-open start until =
    record { rides = omega arith; paid = omega arith; cents = omega arith }

pub room-at : (window : Window) (moment until : ℕ) → IsRoomy window
    → IsRoomy (window_at (Some window) moment until)
unfolding window_at
room-at window moment until room =
    elim (ltb moment window.until) as (λ v. IsRoomy (cond v window (open_window moment until))) [
      | true ↦ room
      | false ↦ room-open moment until
    ]

pub room-ride : (terms : Terms) (window : Window) → AreBoundedTerms terms → IsRoomy window
    → IsRoomy (with_ride terms window)
unfolding with_ride
room-ride terms window bounds room = elim (charged terms window.rides window.cents) [
  | inl free ↦ record {
    rides = omega arith;
    paid = rw free.paid (omega (arith, room.paid, room.rides));
    cents = omega (arith, free.cost, room.cents);
  }
  | inr paid ↦ record {
    rides = omega arith;
    paid = rw paid.paid (omega (arith, room.paid, paid.below_rides, bounds.rides_high));
    cents = omega (arith, paid.cost, paid.below_ceiling, bounds.ceiling_high);
  }
]

-- what is seen of the kept window is what the rule shows, within both limits
pub shown_window-of : (rules : TokenRules) (window : List LiveTap)
    → option_map shown_of (window_of rules window) ≡ shown_window rules window
unfolding window_of shown_of shown_window
shown_window-of rules [] = refl
shown_window-of rules (first ∷ window) = refl

pub paid-shown : (rules : TokenRules) (limit : ℕ) (window : List LiveTap)
    → All (λ ride. (rules.terms ride).rides ≤ limit) window
    → IfSome (shown_window rules window) (λ shown. shown.paid ≤ limit)
unfolding shown_window
paid-shown rules limit [] all = tt
paid-shown rules limit (first ∷ window) all =
    paid_rides-le rules.terms limit (first ∷ window) all

pub cents-shown : (rules : TokenRules) (ceiling : ℕ) (window : List LiveTap)
    → All (λ ride. (rules.terms ride).ceiling ≤ ceiling) window
    → IfSome (shown_window rules window) (λ shown. shown.cents ≤ ceiling)
unfolding shown_window
cents-shown rules ceiling [] all = tt
cents-shown rules ceiling (first ∷ window) all =
    window_cents-le rules.terms ceiling (first ∷ window) all
