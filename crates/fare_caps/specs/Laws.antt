-- What holds of every list of taps under caps and prices.
use Rattle.account_rule.specs.{Replies.replies, Taps.LiveTap, TokenRules.TokenRules}
use Rattle.account_rule.specs.{Windows.last_window, declared.tap.TapIn.TapIn}
use Rattle.fare_caps.specs.CapWindows.{Charged, all_caps, cents_for, charged, counted_in}
use Rattle.fare_caps.specs.CapWindows.{windows_of}
use Rattle.fare_caps.specs.CappedReplies.{capped_replies, capped_replies_after, capped_window}
use Rattle.fare_caps.specs.{Caps.CapRules, Caps.CappedRules, Prices.due_tap}
use Rattle.std.specs.Prelude.{◌≡◌, ℕ, ◌≤◌, true, List, [], ◌∷◌, ◌++◌, All, None, sum_by}

-- the rules with no cap beside `window` and no price of a transfer
abbrev pub without_caps : TokenRules → CappedRules
without_caps rules = record { rules = rules; caps = []; pays = None }

-- with no cap beside `window` and no price each tap is charged as without this crate
abbrev pub NoCapsChangeNothing : Type 0
NoCapsChangeNothing =
    (rules : TokenRules) (taps : List TapIn)
    → capped_replies (without_caps rules) taps ≡ replies rules taps

-- and so does the last window
abbrev pub NoCapsLeaveTheWindow : Type 0
NoCapsLeaveTheWindow =
    (rules : TokenRules) (taps : List TapIn)
    → capped_window (without_caps rules) taps ≡ last_window rules taps

-- later taps change no reply before
abbrev pub LaterTapsChangeNothing : Type 0
LaterTapsChangeNothing =
    (capped : CappedRules) (taps later : List TapIn)
    → capped_replies capped (taps ++ later)
    ≡ capped_replies capped taps ++ capped_replies_after capped taps later

-- the cap's ceiling for the tap, if it counts the tap, is not above this
abbrev pub HasCeiling : CapRules → ℕ → Charged → Type 0
HasCeiling cap ceiling one =
    cap.counts (due_tap one.due) ≡ true → cap.ceiling (due_tap one.due) ≤ ceiling

-- no window of the cap counts more than the highest ceiling of the taps that it counts
abbrev pub KeepsCeiling : List Charged → CapRules → Type 0
KeepsCeiling taps cap =
    (ceiling : ℕ) → All (λ window.
    All (HasCeiling cap ceiling) window → counted_in cap window ≤ ceiling) (windows_of cap taps)

-- so it is of all caps, `window` among them
abbrev pub CapsKeepTheirCeilings : Type 0
CapsKeepTheirCeilings =
    (capped : CappedRules) (taps : List TapIn)
    → All (KeepsCeiling (charged capped taps)) (all_caps capped)

-- the windows of any cap add up to what it counts of all rides and transfers
abbrev pub WindowsAddUp : Type 0
WindowsAddUp =
    (capped : CappedRules) (taps : List TapIn) (cap : CapRules)
    → sum_by (counted_in cap) (windows_of cap (charged capped taps))
    ≡ sum_by (cents_for cap) (charged capped taps)

-- and the rides and transfers add up to all replies
abbrev pub TapsAreTheBill : Type 0
TapsAreTheBill =
    (capped : CappedRules) (taps : List TapIn)
    → sum_by (λ (one : Charged). one.cents) (charged capped taps)
    ≡ sum_by (λ reply. reply.cents) (capped_replies capped taps)

-- the cap counts taps on all modes
abbrev pub CountsAll : CapRules → Type 0
CountsAll cap = (ride : LiveTap) → cap.counts ride ≡ true

-- the rules with one more cap
abbrev pub with_cap : CappedRules → CapRules → CappedRules
with_cap capped more = record capped { caps = more ∷ capped.caps }

-- if all caps count all modes, one more of them makes no list of taps dearer
abbrev pub OneMoreCapIsNeverDearer : Type 0
OneMoreCapIsNeverDearer =
    (capped : CappedRules) (more : CapRules) (taps : List TapIn)
    → All CountsAll (more ∷ capped.caps)
    → sum_by (λ reply. reply.cents) (capped_replies (with_cap capped more) taps)
    ≤ sum_by (λ reply. reply.cents) (capped_replies capped taps)
