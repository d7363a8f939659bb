-- What holds of the trips and the windows of every list of taps.
use Rattle.account_rule.specs.{Blocks.AreBlocksOf, Replies.replies, Replies.ride_reply}
use Rattle.account_rule.specs.{Taps.LiveTap, Taps.live, TokenRules.TokenRules}
use Rattle.account_rule.specs.Trips.{continues, rides, trips}
use Rattle.account_rule.specs.Windows.{charged_by, charges, is_paid, is_within, paid_by, paid_rides}
use Rattle.account_rule.specs.{Windows.window_cents, Windows.windows, declared.reason.Charge.Charge}
use Rattle.account_rule.specs.declared.reply.Answer.{Answer, TheVariants.Paid}
use Rattle.account_rule.specs.declared.reply.Answer.TheVariants.{Transfer, Capped, Stale, Unknown}
use Rattle.account_rule.specs.declared.{reply.Reply.Reply, tap.TapIn.TapIn}
use Rattle.std.specs.List.{flat_map}
use Rattle.std.specs.Prelude.{◌≡◌, ◌↔◌, ℕ, ◌-◌, ◌*◌, ◌≤◌, Bool, true, false, ◌||◌, List, [], ◌∷◌}
use Rattle.std.specs.Prelude.{◌++◌, nat_le, nat_lt, if◌then◌else◌, filter, map, All, sum_by}
use Rattle.std.specs.Prelude.{count_by, max, min, slice_get, Some}
use Rattle.tariffs.specs.declared.terms.Terms.{Terms}

-- the trips are the only blocks into which transfers divide the live taps
abbrev pub TripsAreTheOnlyBlocks : Type 0
TripsAreTheOnlyBlocks =
    (rules : TokenRules) (taps : List TapIn) (blocks : List (List LiveTap))
    → AreBlocksOf (continues rules.transfers) (live taps) blocks ↔ (blocks ≡ trips rules taps)

-- the windows are the only blocks into which window ends divide the rides
abbrev pub WindowsAreTheOnlyBlocks : Type 0
WindowsAreTheOnlyBlocks =
    (rules : TokenRules) (taps : List TapIn) (blocks : List (List LiveTap))
    → AreBlocksOf (is_within rules.until) (rides rules taps) blocks ↔ (blocks ≡ windows rules taps)

-- no window has more paid rides than the highest ride limit of its rides
abbrev pub WindowsKeepTheRideLimit : Type 0
WindowsKeepTheRideLimit =
    (rules : TokenRules) (taps : List TapIn) (limit : ℕ)
    → All (λ window. All (λ ride. (rules.terms ride).rides ≤ limit) window
    → paid_rides rules.terms window ≤ limit) (windows rules taps)

-- no window costs more than the highest ceiling of its rides
abbrev pub WindowsKeepTheCeiling : Type 0
WindowsKeepTheCeiling =
    (rules : TokenRules) (taps : List TapIn) (ceiling : ℕ)
    → All (λ window. All (λ ride. (rules.terms ride).ceiling ≤ ceiling) window
    → window_cents rules.terms window ≤ ceiling) (windows rules taps)

-- With each ride the paid rides of a window stay as many as they were, or are at most as many as
-- the ride's limit, and what the window costs stays as it was, or is at most the ride's ceiling.
abbrev pub GrowsWithinLimits : (LiveTap → Terms) → List LiveTap → Type 0
GrowsWithinLimits terms window =
    (before after : List LiveTap) (ride : LiveTap) → window ≡ before ++ ride ∷ after
    → (paid_rides terms (before ++ ride ∷ []) ≤ max (paid_rides terms before) (terms ride).rides)
    × (window_cents terms (before ++ ride ∷ [])
    ≤ max (window_cents terms before) (terms ride).ceiling)

-- each window grows within the limits of its rides, also if these differ
abbrev pub WindowsGrowWithinLimits : Type 0
WindowsGrowWithinLimits =
    (rules : TokenRules) (taps : List TapIn)
    → All (GrowsWithinLimits rules.terms) (windows rules taps)

-- whether the reply is to a ride that is paid
abbrev pub is_paid_reply : Reply → Bool
is_paid_reply reply = is_paid_answer reply.answer
  where
    is_paid_answer : Answer → Bool
    is_paid_answer Paid = true
    is_paid_answer Transfer = false
    is_paid_answer Capped = false
    is_paid_answer Stale = false
    is_paid_answer Unknown = false

-- whether the reply is to a ride, charged or free
abbrev pub is_ride : Reply → Bool
is_ride reply = is_ride_answer reply.answer
  where
    is_ride_answer : Answer → Bool
    is_ride_answer Paid = true
    is_ride_answer Transfer = false
    is_ride_answer Capped = true
    is_ride_answer Stale = false
    is_ride_answer Unknown = false

-- the reply to a ride, by what decides its cents
abbrev pub charge_reply : Charge → Reply
charge_reply charge = ride_reply (paid_by charge)

-- the replies to rides are, window by window, those of its charges
abbrev pub WindowsShareTheRides : Type 0
WindowsShareTheRides =
    (rules : TokenRules) (taps : List TapIn)
    → filter is_ride (replies rules taps)
    ≡ flat_map (λ window. map charge_reply (charges rules.terms window)) (windows rules taps)

-- the cents of all replies are the cents of all windows
abbrev pub WindowsShareTheCents : Type 0
WindowsShareTheCents =
    (rules : TokenRules) (taps : List TapIn)
    → sum_by (λ reply. reply.cents) (replies rules taps)
    ≡ sum_by (window_cents rules.terms) (windows rules taps)

-- the Paid replies are the paid rides of all windows
abbrev pub WindowsShareThePaidRides : Type 0
WindowsShareThePaidRides =
    (rules : TokenRules) (taps : List TapIn)
    → count_by is_paid_reply (replies rules taps)
    ≡ sum_by (paid_rides rules.terms) (windows rules taps)

-- no number of the terms is above the other terms' one
pub record AreNoHigher (terms higher : Terms) : Type 0 where
  pub fare : terms.fare ≤ higher.fare
  pub rides : terms.rides ≤ higher.rides
  pub ceiling : terms.ceiling ≤ higher.ceiling

-- the rules under other terms
abbrev pub with_terms : TokenRules → (LiveTap → Terms) → TokenRules
with_terms rules terms = record rules { terms = terms }

-- under a higher fare, ride limit or ceiling of rides, the same taps cost as much or more
abbrev pub HigherTermsAreNeverCheaper : Type 0
HigherTermsAreNeverCheaper =
    (rules : TokenRules) (higher : LiveTap → Terms) (taps : List TapIn)
    → ((ride : LiveTap) → AreNoHigher (rules.terms ride) (higher ride))
    → sum_by (λ reply. reply.cents) (replies rules taps)
    ≤ sum_by (λ reply. reply.cents) (replies (with_terms rules higher) taps)

-- the cents of a ride by its place in a window in which all rides have these terms: the rides
-- before it cost a fare each, up to the ceiling
unfoldable pub position_cents : Terms → ℕ → ℕ
position_cents terms position =
    if nat_le terms.rides position || nat_le terms.ceiling (position * terms.fare)
    then 0
    else min terms.fare (terms.ceiling - position * terms.fare)

-- what the ride at the place costs is what its place says, and it is paid if that is above 0
pub record IsOfPosition (terms : Terms) (position : ℕ) (charge : Charge) : Type 0 where
  pub cents : charged_by charge ≡ position_cents terms position
  pub paid : is_paid charge ≡ nat_lt 0 (position_cents terms position)

-- if all rides of a window have the same terms, each costs what its place says
abbrev pub EqualFaresAreChargedByPositions : Type 0
EqualFaresAreChargedByPositions =
    (terms : LiveTap → Terms) (same : Terms) (window : List LiveTap)
    → 1 ≤ same.fare → ((ride : LiveTap) → terms ride ≡ same)
    → (position : ℕ) (charge : Charge) → slice_get (charges terms window) position ≡ Some charge
    → IsOfPosition same position charge
