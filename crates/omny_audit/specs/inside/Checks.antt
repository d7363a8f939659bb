-- What a check of lines has read: what private functions alone cite.
use Rattle.histories.specs.declared.entry.Entry.{Entry}
use Rattle.ledger_check.specs.Balances.{IsBalance, IsDifference}
use Rattle.ledger_check.specs.FullCheckStates.{HasFullyChecked, IsFed}
use Rattle.ledger_check.specs.{Ledger.IsLedger, Ledger.IsLedgerOf, Sums.AreSumsOf}
use Rattle.ledger_check.specs.declared.balance.{Balance.Balance, Difference.Difference}
use Rattle.omny_audit.specs.{Findings.IsFindingOf, Findings.IsRightLedger, Text.IsDifferenceText}
use Rattle.omny_audit.specs.declared.check.Check.{Check, TheVariants.First, TheVariants.All}
use Rattle.omny_audit.specs.declared.check.Found.{Found}
use Rattle.std.specs.List.Sorted.{IsPermutation}
use Rattle.std.specs.Prelude.{◌≡◌, ◌↔◌, ℕ, Bool, true, false, List, [], IfSome, Option, is_some}
use Rattle.tap_views.specs.declared.encoder.TapFields.{TapFields}
use Rattle.tariffs.specs.Fares.{Fares}

-- whether all lines are checked
abbrev pub is_all : Check → Bool
is_all (First checker balance verdict) = false
is_all (All full_check full) = true

-- whether the first wrong line was found
abbrev pub is_decided : Check → Bool
is_decided (First checker balance verdict) = is_some verdict
is_decided (All full_check full) = false

-- The text was read, this was reported of it, and its taps were subtracted from the valid ones, if
-- it is to subtract them; or a line of it is the first wrong one, whatever follows.
abbrev pub HasChecked : Fares → Bool → List TapFields → Check → List ℕ → List ℕ → Type 0
HasChecked fares subtracts valid (First checker balance verdict) text written =
    IsFed fares checker balance text valid verdict × (written ≡ [])
HasChecked fares subtracts valid (All full_check full) text written =
    HasFullyChecked fares full_check subtracts full text written valid

-- nothing was written, or how the taps of the balance differ was, and whether they do is known
abbrev pub IsCompared : Balance → Bool → List ℕ → Bool → Type 0
IsCompared balance false rest even = (rest ≡ []) × (even ≡ true)
IsCompared balance true rest even = (difference : Option Difference)
    × IsDifferenceText difference rest
    × ((valid others : List TapFields) → IsBalance balance valid others
    → IsDifference valid others difference × ((even ≡ true) ↔ IsPermutation valid others))

-- This is what was found of the text, and reported, beside the valid taps of the uploads, if there
-- are uploads. Sums are those of a ledger's entries.
pub record Finds (all live : Bool) (fares : Fares) (text : List ℕ)
    (valid : Option (List TapFields)) (reported : List ℕ) (found : Found) : Type 0 where
  pub finding : IsFindingOf all fares text valid reported
  pub sound : (found.is_sound ≡ true) ↔ IsRightLedger live fares text valid
  pub legal : (found.is_legal ≡ true) ↔ IsLedger fares text
  pub sums : found.is_legal ≡ true → (entries : List Entry) → IsLedgerOf fares entries text
      → IfSome found.sums (AreSumsOf entries)
